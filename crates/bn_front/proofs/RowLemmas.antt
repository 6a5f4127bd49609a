-- What clap's rows say of the options and of the plain words.
use Rattle.std.proofs.Common.{◌≡◌, ◌∙◌, Bool, true, false, List, [], ◌∷◌, ◌++◌, append_assoc}
use Rattle.std.proofs.Common.{refl, sym, ap, append-nil, true≢false}
use Rattle.std.specs.Prelude.{fold, unwrap_or}
use Rattle.std.specs.List.{cons_option}
use Rattle.std.specs.Str.{bytes_eq}
use Rattle.std.proofs.lemmas.Slice.Eq.{bytes_eq-Decides}
use Rattle.clap.specs.Walk.{Row, Text, all_of, used, with_values}
use Rattle.clap.specs.declared.builder.value_parser.Reading.{Reading}
use Rattle.clap.specs.declared.parser.matches.ValueSource.{ValueSource}
use Rattle.bn_model.specs.CommandLines as flat
use Rattle.bn_front.specs.Commands.{word_id}
use Rattle.bn_front.proofs.RuleLemmas.{built_if, is_no_word}
use Rattle.bn_front.proofs.WordSteps.{same_text, with_item}

abbrev pub under : Text → List Row → List Text
under id rows = unwrap_or (all_of id rows) []

under_same : (id : Text) (how : Reading) (source : ValueSource) (texts : List Text)
    (rows : List Row)
    → under id (with_values id how source texts rows) ≡ under id rows ++ texts
under_same id how source texts [] = rw (same_text id) refl
under_same id how source texts (row ∷ rows) =
    by_test (bytes_eq row.id id) refl (under_same id how source texts rows)
  where
    by_test : (t : Bool) → bytes_eq row.id id ≡ t
        → under id (with_values id how source texts rows) ≡ under id rows ++ texts
        → under id (with_values id how source texts (row ∷ rows)) ≡ under id (row ∷ rows) ++ texts
    by_test true e again = rw (e, e) refl
    by_test false e again = rw (e, e) again

under_other : (own id : Text) (how : Reading) (source : ValueSource) (texts : List Text)
    → bytes_eq own id ≡ false → (rows : List Row)
    → under id (with_values own how source texts rows) ≡ under id rows
under_other own id how source texts differs [] = rw differs refl
under_other own id how source texts differs (row ∷ rows) =
    by_tests (bytes_eq row.id own) (bytes_eq row.id id) refl refl
    (under_other own id how source texts differs rows)
  where
    by_tests : (t u : Bool) → bytes_eq row.id own ≡ t → bytes_eq row.id id ≡ u
        → under id (with_values own how source texts rows) ≡ under id rows
        → under id (with_values own how source texts (row ∷ rows)) ≡ under id (row ∷ rows)
    by_tests true true e f again =
        let same = (bytes_eq-Decides row.id own).0 e in
        absurd (true≢false (sym f ∙ ap (λ (t : Text). bytes_eq t id) same ∙ differs))
    by_tests true false e f again = rw (e, f) refl
    by_tests false true e f again = rw (e, f) refl
    by_tests false false e f again = rw (e, f) again

differs_too : (a b : Text) → bytes_eq a b ≡ false → bytes_eq b a ≡ false
differs_too a b differs = by_test (bytes_eq b a) refl where
  by_test : (t : Bool) → bytes_eq b a ≡ t → bytes_eq b a ≡ false
  by_test true e =
      let same = (bytes_eq-Decides b a).0 e in
      absurd (true≢false (sym ((bytes_eq-Decides a b).1 (sym same)) ∙ differs))
  by_test false e = e

-- one more value of an option
option_same : (b : Bool) (id text : Text) (rows : List Row)
    → under id (used (built_if b id) (text ∷ []) rows) ≡ under id rows ++ text ∷ []
option_same true id text rows = under_same id _ _ (text ∷ []) rows
option_same false id text rows = under_same id _ _ (text ∷ []) rows

option_other : (b : Bool) (own id text : Text) (rows : List Row) → bytes_eq own id ≡ false
    → under id (used (built_if b own) (text ∷ []) rows) ≡ under id rows
option_other true own id text rows differs = under_other own id _ _ (text ∷ []) differs rows
option_other false own id text rows differs = under_other own id _ _ (text ∷ []) differs rows

-- the values of an option
pub given_under : (name : flat.Name) (items : List flat.Item) (rows : List Row)
    → under (flat.name_text name) (fold with_item rows items)
    ≡ under (flat.name_text name) rows ++ flat.values_of name items
given_under name [] rows = sym (append-nil (under (flat.name_text name) rows))
given_under name (flat.Plain word ∷ items) rows =
    given_under name items (with_item rows (flat.Plain word))
    ∙ ap (λ (texts : List Text). texts ++ flat.values_of name items)
    (under_other word_id (flat.name_text name) _ _ (word ∷ [])
    (differs_too (flat.name_text name) word_id (is_no_word name)) rows)
given_under name (flat.Given other text ∷ items) rows =
    given_under name items (with_item rows (flat.Given other text))
    ∙ by_test (bytes_eq (flat.name_text name) (flat.name_text other)) refl
  where
    by_test : (t : Bool) → bytes_eq (flat.name_text name) (flat.name_text other) ≡ t
        → under (flat.name_text name) (with_item rows (flat.Given other text))
        ++ flat.values_of name items
        ≡ under (flat.name_text name) rows ++ flat.values_of name (flat.Given other text ∷ items)
    by_test true e =
        let same = (bytes_eq-Decides (flat.name_text name) (flat.name_text other)).0 e in
        ap (λ (id : Text). under id (with_item rows (flat.Given other text))
        ++ flat.values_of name items) same
        ∙ ap (λ (texts : List Text). texts ++ flat.values_of name items)
        (option_same (flat.takes_value other) (flat.name_text other) text rows)
        ∙ append_assoc (under (flat.name_text other) rows) (text ∷ []) (flat.values_of name items)
        ∙ ap (λ (id : Text). under id rows ++ text ∷ flat.values_of name items) (sym same)
        ∙ ap (λ (t : Bool). under (flat.name_text name) rows
        ++ cons_option (flat.value_if t text) (flat.values_of name items)) (sym e)
    by_test false e =
        ap (λ (texts : List Text). texts ++ flat.values_of name items)
        (option_other (flat.takes_value other) (flat.name_text other) (flat.name_text name) text
        rows (differs_too (flat.name_text name) (flat.name_text other) e))
        ∙ ap (λ (t : Bool). under (flat.name_text name) rows
        ++ cons_option (flat.value_if t text) (flat.values_of name items)) (sym e)

-- the plain words
pub plain_under : (items : List flat.Item) (rows : List Row)
    → under word_id (fold with_item rows items) ≡ under word_id rows ++ flat.plain_words items
plain_under [] rows = sym (append-nil (under word_id rows))
plain_under (flat.Plain word ∷ items) rows =
    plain_under items (with_item rows (flat.Plain word))
    ∙ ap (λ (texts : List Text). texts ++ flat.plain_words items)
    (under_same word_id _ _ (word ∷ []) rows)
    ∙ append_assoc (under word_id rows) (word ∷ []) (flat.plain_words items)
plain_under (flat.Given other text ∷ items) rows =
    plain_under items (with_item rows (flat.Given other text))
    ∙ ap (λ (texts : List Text). texts ++ flat.plain_words items)
    (option_other (flat.takes_value other) (flat.name_text other) word_id text rows
    (is_no_word other))
