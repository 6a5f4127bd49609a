use Rattle.std.proofs.Common.{List, refl, sym, ap, ◌∙◌, take, get_or}
use Rattle.std.proofs.lemmas.List.{take_more}
use Rattle.bn_types.specs.declared.decl.Decl.{Decl}
use Rattle.bn_model.specs.Nesting.{contents}
use Rattle.bn_machine.specs.Zeroing.{after_decl, zeroed_pages}
use Rattle.bn_machine.proofs.ZeroedPages.{held-by, zeroed-more, zeroed-none}
use Rattle.bn_machine.proofs.engine.blanking.blank_pages.Goals as goal

pub loop-decl-init : goal.loop-decl-init
loop-decl-init g c = record {
  pages = sym (zeroed-none (contents c.args.unit.now.nest));
  live = refl;
  harts = refl;
  ram = refl;
  nested = c.facts.ensures.nested;
}

pub blank_if_private-requires : goal.blank_if_private-requires
blank_if_private-requires g c = record {
  held = held-by _ _ _ _ _ c.loop-decl.invariant.ram c.loop-decl.invariant.live
      (c.requires.held c.loop-decl.decl-index _ c.loop-decl-test.true);
}

pub loop-decl-preserved : goal.loop-decl-preserved
loop-decl-preserved g c =
    let decls = c.args.decls.now in
    let old = contents c.args.unit.now.nest in
    let here = c.loop-decl.decl-index in
    record {
      pages = c.blank_if_private.ensures.pages
          ∙ ap (after_decl (get_or decls here _)) c.loop-decl.invariant.pages
          ∙ zeroed-more (take here decls) (get_or decls here _) old
          ∙ ap (λ (front : List Decl). zeroed_pages front old)
          (sym (take_more decls here _ c.loop-decl-test.true));
      live = c.blank_if_private.ensures.live ∙ c.loop-decl.invariant.live;
      harts = c.blank_if_private.ensures.harts ∙ c.loop-decl.invariant.harts;
      ram = c.blank_if_private.ensures.ram ∙ c.loop-decl.invariant.ram;
      nested = c.blank_if_private.ensures.nested;
    }
