use Rattle.std.proofs.Common.{zero, List, length, sym, ap, ◌∙◌}
use Rattle.std.specs.Option.{option_copied}
use Rattle.bn_types.specs.declared.decl.Decl.{Decl}
use Rattle.bn_model.specs.Blanking.{blank_row, rests}
use Rattle.bn_model.specs.Nesting.{contents}
use Rattle.bn_model.specs.Rows.{owners, row_of}
use Rattle.bn_model.specs.Standing.{state_of}
use Rattle.bn_model.specs.State.{State}
use Rattle.bn_model.proofs.BlankPages.{keeps-blank}
use Rattle.bn_model.proofs.RowLemmas.{owners-with_row}
use Rattle.bn_machine.specs.Standing.{Standing}
use Rattle.bn_machine.specs.Zeroing.{zeroed_pages}
use Rattle.bn_machine.proofs.ZeroedPages.{blank-missing, blank-parts, held-in, zeroed-row}
use Rattle.bn_machine.proofs.engine.Engine.blank_resting.Goals as goal

pub blank_pages-requires : goal.blank_pages-requires
blank_pages-requires g c = record {
  held =
      held-in c.args.self.now.state c.args.id.0 c.in-Some.row.now _ _ _
      c.requires.sound.claims.ordered
      (ap (λ (v : Standing). length v.state.pages) (sym c.self.view_is) ∙ c.facts-2.ensures.count)
      (c.self.invariant.owned ∙ ap (λ (v : Standing). owners v.state.rows) c.self.view_is)
      (ap (λ (v : Standing). row_of v.state.rows c.args.id.0) (sym c.self.view_is)
      ∙ sym c.row.ensures ∙ ap option_copied c.in-Some.is)
      c.deref.ensures.0;
}

pub invariant_of-self : goal.invariant_of-self
invariant_of-self g c = record {
  nested = c.blank_pages.ensures.nested;
  owned = rw c.blank.ensures
      (c.blank_pages.ensures.live ∙ c.self.invariant.owned
      ∙ sym (owners-with_row c.args.id.0 blank_row keeps-blank c.self.inside.table.rows));
  some = c.self.invariant.some;
  held = c.blank_pages.ensures.harts ∙ c.self.invariant.held;
}

pub returns-in-Some : goal.returns-in-Some
returns-in-Some g c =
    let id = c.args.id.0 in
    let s : State = state_of (record {
      nest = c.self.inside.unit.nest;
      harts = c.self.inside.harts.items;
      rows = c.self.inside.table.rows;
      records = c.self.inside.store;
      keys = c.self.inside.keys.items;
      next = c.self.inside.table.next;
      clock = c.self.inside.clock;
      off = c.self.inside.off;
    }) in
    record {
      blanked =
          rw (c.blank.ensures, ← c.self.view_is)
          (blank-parts id s (contents c.blank_pages.new.unit.nest)
          (ap (λ (v : Standing). rests id v.state) c.self.view_is ∙ c.requires.rests)
          (c.blank_pages.ensures.pages
          ∙ ap (λ (decls : List Decl). zeroed_pages decls (contents c.self.inside.unit.nest))
          c.deref.ensures.0
          ∙ zeroed-row zero c.self.inside.table.rows c.self.inside.table.next
          c.facts.ensures.ascend id c.in-Some.row.now
          (sym c.row.ensures ∙ ap option_copied c.in-Some.is)
          (contents c.self.inside.unit.nest)));
    }

pub returns-in_default : goal.returns-in_default
returns-in_default g c = record {
  blanked = sym (blank-missing c.args.id.0 c.args.self.now.state
      (ap (λ (v : Standing). row_of v.state.rows c.args.id.0) (sym c.self.view_is)
      ∙ sym c.row.ensures ∙ ap option_copied c.in_default.is));
}
