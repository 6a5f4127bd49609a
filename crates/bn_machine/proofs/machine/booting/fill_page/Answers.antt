use Rattle.std.proofs.Common.{◌≡◌, [], set, ap, length, sym, ◌∙◌}
use Rattle.std.proofs.lemmas.Bool.{not-false}
use Rattle.std.proofs.lemmas.List.{set-get_or}
use Rattle.std.specs.Cmp.Lexicographic.{same_text}
use Rattle.bn_types.specs.Numbers.{zero_page}
use Rattle.bn_model.proofs.PageNumbers.{length-zero_page}
use Rattle.bn_model.specs.Nesting.{contents}
use Rattle.bn_machine.proofs.machine.booting.fill_page.Goals as goal

pub write_page-requires-clause-whole : goal.write_page-requires-clause-whole
write_page-requires-clause-whole c = ap length c.requires.zeros ∙ length-zero_page

pub returns-else-ne-clause-contents : goal.returns-else-ne-clause-contents
unfolding zero_page
returns-else-ne-clause-contents c =
    let same : c.args.bytes.now ≡ c.as_slice.result.now =
    same_text _ _ (sym (not-false _ (sym c.ne.ensures ∙ c.if-ne.false))) in
    let zeros : c.as_slice.result.now ≡ zero_page = c.as_slice.ensures in
    sym (ap (set (contents c.args.nest.now) c.args.page.0) (same ∙ zeros ∙ sym c.requires.zeros)
    ∙ set-get_or (contents c.args.nest.now) c.args.page.0 [])
