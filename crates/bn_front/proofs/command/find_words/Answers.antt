use Rattle.std.proofs.Common.{◌≡◌, ◌∙◌, ap, subst, sym, true}
use Rattle.clap.specs.Kinds.{HasKind}
use Rattle.bn_front.proofs.MatchLemmas.{finds, finds_none}
use Rattle.bn_front.proofs.RuleLemmas.{app_is_free, app_is_simple}
use Rattle.bn_front.proofs.WordWalks.{words_agree}
use Rattle.bn_front.specs.Meant.{bytes_of_texts}
use Rattle.clap.specs.Words.{app_of}
use Rattle.clap.specs.Simple.{App, is_simple, matches_of}
use Rattle.clap.specs.Faults.{fault_of, is_simple_and_free}
use Rattle.bn_front.proofs.command.find_words.Goals as goal

pub returns-in-Ok-try_get_matches_from : goal.returns-in-Ok-try_get_matches_from
returns-in-Ok-try_get_matches_from c =
    let words = bytes_of_texts c.args.words.now in
    let free : is_simple_and_free (app_of c.in-Ok.command) ≡ true =
    ap is_simple_and_free c.in-Ok.ensures ∙ app_is_free c.args.tool in
    let simple : is_simple (app_of c.in-Ok.command) ≡ true =
    ap is_simple c.in-Ok.ensures ∙ app_is_simple c.args.tool in
    finds _ _ _ c.in-Ok-try_get_matches_from.matches
    (words_agree c.args.tool words c.requires)
    (ap (λ (a : App). fault_of a words) (sym c.in-Ok.ensures)
    ∙ c.in-Ok-try_get_matches_from.ensures.kinds free)
    ((c.in-Ok-try_get_matches_from.ensures.matches simple).0
    ∙ ap (λ (a : App). matches_of a words) c.in-Ok.ensures)

pub returns-in-Err-try_get_matches_from : goal.returns-in-Err-try_get_matches_from
returns-in-Err-try_get_matches_from c =
    let words = bytes_of_texts c.args.words.now in
    let free : is_simple_and_free (app_of c.in-Ok.command) ≡ true =
    ap is_simple_and_free c.in-Ok.ensures ∙ app_is_free c.args.tool in
    finds_none _ _ _ c.in-Err-try_get_matches_from.error c.reason.result
    (words_agree c.args.tool words c.requires)
    (subst (λ (a : App). HasKind (fault_of a words) c.in-Err-try_get_matches_from.error)
    c.in-Ok.ensures (c.in-Err-try_get_matches_from.ensures.kinds free))
    c.reason.ensures
