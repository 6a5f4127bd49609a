use Rattle.std.proofs.Common.{◌≡◌, ◌∙◌, Some, ap, subst, rules}
use Rattle.bn_edge.specs.Registers.{replaced}
use Rattle.bn_edge.specs.Areas.{area_at, other_area, with_area}
use Rattle.bn_edge.specs.Crashes.{IsStable}
use Rattle.bn_vault.specs.Committing.{HasNoTwins}
use Rattle.bn_vault.specs.Openings.{opening_of}
use Rattle.bn_vault.proofs.MomentLemmas.{weaker}
use Rattle.bn_vault.proofs.OpeningLemmas.{opens_kept, committed_opens_old, committed_opens_new}
use Rattle.bn_vault.proofs.OpeningLemmas.{committed_is_current}
use Rattle.bn_vault.proofs.committing.commit_text.Goals as goal

pub returns-in-Ok-clause-any_moment : goal.returns-in-Ok-clause-any_moment
returns-in-Ok-clause-any_moment g c = λ a r stable held alone.
    weaker (g.V.Vault.account c.args.vault.now) (g.V.Vault.account c.put.new.vault)
    (λ x. area_at (other_area c.other-area.result) x ≡ area_at (other_area c.other-area.result) a)
    (λ x. HasNoTwins x → opening_of x r ≡ opening_of a r)
    (c.put.ensures.any_moment a stable)
    (λ x same alone'. opens_kept c.args.current c.other-area.result
    (g.V.Vault.account c.args.vault.now).areas (g.C.Chip.account c.args.chip.now).register a x r
    c.other-area.ensures stable.told held c.requires.current alone same alone')

pub returns-in-Err-clause-any_moment : goal.returns-in-Err-clause-any_moment
returns-in-Err-clause-any_moment g c = λ a r stable held alone.
    weaker (g.V.Vault.account c.args.vault.now) (g.V.Vault.account c.put.new.vault)
    (λ x. area_at (other_area c.other-area.result) x ≡ area_at (other_area c.other-area.result) a)
    (λ x. HasNoTwins x → opening_of x r ≡ opening_of a r)
    (c.put.ensures.any_moment a stable)
    (λ x same alone'. opens_kept c.args.current c.other-area.result
    (g.V.Vault.account c.args.vault.now).areas (g.C.Chip.account c.args.chip.now).register a x r
    c.other-area.ensures stable.told held c.requires.current alone same alone')

pub returns-in-Ok-clause-opens_old : goal.returns-in-Ok-clause-opens_old
returns-in-Ok-clause-opens_old g c = λ a r told held alone alone'.
    committed_opens_old c.args.current c.args.text.now (g.V.Vault.account c.args.vault.now).areas
    (g.C.Chip.account c.args.chip.now).register a r told held c.requires.current alone alone'

pub returns-in-Err-clause-opens_old : goal.returns-in-Err-clause-opens_old
returns-in-Err-clause-opens_old g c = λ a r told held alone alone'.
    committed_opens_old c.args.current c.args.text.now (g.V.Vault.account c.args.vault.now).areas
    (g.C.Chip.account c.args.chip.now).register a r told held c.requires.current alone alone'

pub returns-in-Ok-clause-opens_new : goal.returns-in-Ok-clause-opens_new
returns-in-Ok-clause-opens_new g c = λ a some alone.
    committed_opens_new c.args.current c.args.text.now a some alone

pub returns-in-Err-clause-opens_new : goal.returns-in-Err-clause-opens_new
returns-in-Err-clause-opens_new g c = λ a some alone.
    committed_opens_new c.args.current c.args.text.now a some alone

pub returns-in-Ok-clause-next_current : goal.returns-in-Ok-clause-next_current
returns-in-Ok-clause-next_current g c = λ a stable.
    let ends : IsStable (g.V.Vault.account c.put.new.vault)
    (with_area c.other-area.result c.args.text.now a) =
    c.in-Ok.ensures.stable (search rules) a stable in
    committed_is_current c.args.current c.args.text.now a (g.V.Vault.account c.put.new.vault).areas
    (g.C.Chip.account c.args.chip.now).register (g.C.Chip.account c.put.new.chip).register
    (subst (λ o. (g.V.Vault.account c.put.new.vault).areas ≡ Some (with_area o c.args.text.now a))
    c.other-area.ensures ends.told)
    (c.in-Ok.ensures.set ∙ ap (replaced (g.C.Chip.account c.args.chip.now).register)
    c.digest_of-digest.ensures)
