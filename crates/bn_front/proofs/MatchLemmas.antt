-- The matches of a command's words.
use Rattle.std.proofs.Common.{◌≡◌, ◌∙◌, List, [], Option, Some, None, Ok, Err}
use Rattle.std.proofs.Common.{refl, ap, subst, ⊎_elim}
use Rattle.std.specs.Prelude.{unwrap_or}
use Rattle.clap.specs.Walk.{Row, Text, rows_of}
use Rattle.clap.specs.Words.{found_of}
use Rattle.clap.specs.Kinds.{HasKind, Kinds}
use Rattle.clap.proofs.WalkLemmas.{raw_values-rows}
use Rattle.clap.specs.declared.error.Error.{Error}
use Rattle.clap.specs.declared.parser.matches.ArgMatches.{ArgMatches}
use Rattle.bn_model.specs.CommandLines as flat
use Rattle.bn_front.specs.Commands.{word_id}
use Rattle.bn_front.specs.Items.{Explains, Finds, texts_under}
use Rattle.bn_front.specs.declared.words_error.WordsError.{WordsError}
use Rattle.bn_front.specs.declared.words_error.WordsError.TheVariants as error
use Rattle.bn_front.proofs.WordWalks.{Agrees}
use Rattle.bn_front.proofs.RowLemmas.{given_under, plain_under, under}

read_under : (id : Text) (matches : ArgMatches)
    → texts_under id matches ≡ under id (rows_of (found_of matches))
read_under id matches =
    ap (λ (texts : Option (List Text)). unwrap_or texts []) (raw_values-rows (found_of matches) id)

-- where there are matches
pub finds : (expected : Option (List flat.Item)) (kinds : Kinds) (rows : List Row)
    (matches : ArgMatches) → Agrees expected kinds rows → kinds ≡ []
    → rows_of (found_of matches) ≡ rows → Finds expected (Ok matches)
finds None kinds rows matches agrees none same = agrees none
finds (Some items) kinds rows matches agrees none same = record {
  given = λ name. read_under (flat.name_text name) matches
      ∙ ap (under (flat.name_text name)) (same ∙ agrees.1) ∙ given_under name items [];
  plain = read_under word_id matches ∙ ap (under word_id) (same ∙ agrees.1) ∙ plain_under items [];
}

-- where there are none
pub finds_none : (expected : Option (List flat.Item)) (kinds : Kinds) (rows : List Row)
    (fault : Error) (answer : WordsError) → Agrees expected kinds rows → HasKind kinds fault
    → Explains fault answer → Finds expected (Err answer)
finds_none expected kinds rows fault error.Memory agrees has explains = tt
finds_none None kinds rows fault error.Words agrees has explains = refl
finds_none (Some items) kinds rows fault error.Words agrees has explains =
    absurd (⊎_elim (λ memory. explains memory) (λ among. among)
    (subst (λ (k : Kinds). HasKind k fault) agrees.0 has))
