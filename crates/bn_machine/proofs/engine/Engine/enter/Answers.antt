use Rattle.std.proofs.Common.{ℕ, false, ◌≡◌, ◌<◌, ◌++◌, ◌∷◌, List, [], length, sym, ap, ap₂, subst, ◌∙◌}
use Rattle.std.proofs.lemmas.Option.{none-some, same_Some}
use Rattle.std.specs.List.{All}
use Rattle.std.specs.Option.{option_copied}
use Rattle.bn_types.specs.declared.decl.Decl.{Decl}
use Rattle.bn_types.specs.declared.row.Row.{Row}
use Rattle.bn_model.specs.declared.owner.Owner.{Owner}
use Rattle.bn_model.specs.Rows.{new_row, owner_of, owners}
use Rattle.bn_unit.proofs.Leaving.{harts-without}
use Rattle.bn_unit.specs.Memory.{Backing}
use Rattle.bn_machine.specs.Standing.{HasParts, Standing}
use Rattle.bn_model.specs.Owners.{is_live}
use Rattle.bn_machine.proofs.Askers.{new-id}
use Rattle.bn_machine.proofs.Launches.{found_added, length_owners, owners_more}
use Rattle.bn_machine.proofs.engine.Engine.enter.Goals as goal

-- the row that the table tells is the new one
the-row : (c : goal.After-own-arg-1)
    → c.in-Some.row.now ≡ new_row c.self.inside.table.next c.args.judged
the-row c =
    same_Some _ _
    (sym (ap option_copied c.in-Some.is)
    ∙ found_added c.self.inside.table.rows _ _ _ c.args.judged _ c.facts.ensures.ascend
    c.add-id.ensures.rows c.add-id.ensures.id c.row.ensures)

pub own-requires-clause-room : goal.own-requires-clause-room
own-requires-clause-room c =
    subst (λ (n : ℕ). n < 15)
    (sym (ap length c.self.invariant.owned ∙ length_owners c.self.inside.table.rows))
    (subst (λ (m : Standing). length m.state.rows < 15) (sym c.self.view_is) c.requires.room)

pub own-requires-clause-new : goal.own-requires-clause-new
own-requires-clause-new c =
    subst (λ (live : List Owner). is_live live c.in-Some.row.now.id.0 ≡ false)
    (sym c.self.invariant.owned)
    (new-id c.self.inside.table.rows c.self.inside.table.next c.in-Some.row.now.id.0
    c.facts.ensures.ascend (ap (λ (row : Row). row.id.0) (the-row c)))

pub own-requires-clause-inside : goal.own-requires-clause-inside
own-requires-clause-inside c =
    subst (λ (row : Row).
    All (λ (decl : Decl). decl.gpn.0 < c.self.inside.unit.nest.ram) row.judged.decls.items)
    (sym (the-row c))
    (subst (λ (n : ℕ). All (λ (decl : Decl). decl.gpn.0 < n) c.args.judged.decls.items)
    c.facts-2.ensures.count
    (subst (λ (m : Standing).
    All (λ (decl : Decl). decl.gpn.0 < length m.state.pages) c.args.judged.decls.items)
    (sym c.self.view_is) c.requires.inside))

pub invariant_of-self : goal.invariant_of-self
invariant_of-self c =
    let row = same_Some _ _
    (sym (ap option_copied c.in-Some.is)
    ∙ found_added c.self.inside.table.rows _ _ _ c.args.judged _ c.facts.ensures.ascend
    c.add-id.ensures.rows c.add-id.ensures.id c.row.ensures) in
    subst (λ (unit : Backing). HasParts unit c.add-id.new.self.rows c.self.inside.harts.items)
    (sym c.own.ensures.entered)
    (record {
      nested = c.self.invariant.nested;
      owned = ap₂ (λ (live : List Owner) (row : Row). live ++ owner_of row ∷ [])
          c.self.invariant.owned row
          ∙ sym (owners_more c.self.inside.table.rows _) ∙ ap owners (sym c.add-id.ensures.rows);
      some = c.self.invariant.some;
      held = harts-without c.in-Some.row.now.judged.decls.items c.self.inside.unit.cache
          ∙ c.self.invariant.held;
    })

pub unreachable-requires : goal.unreachable-requires
unreachable-requires c =
    none-some _
    (sym (ap option_copied c.in-None.is)
    ∙ found_added c.self.inside.table.rows _ _ _ c.args.judged _ c.facts.ensures.ascend
    c.add-id.ensures.rows c.add-id.ensures.id c.row.ensures)
