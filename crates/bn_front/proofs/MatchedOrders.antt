-- What the matches of words order.
use Rattle.std.proofs.Common.{◌≡◌, ◌∙◌, ℕ, Bool, true, false, List, [], ◌∷◌, ◌++◌, Option}
use Rattle.std.proofs.Common.{Some, None}
use Rattle.std.proofs.Common.{Ok, option_map, refl, sym, ap, ap₂, cond, subst}
use Rattle.std.specs.List.{cons_option}
use Rattle.std.specs.Str.{bytes_eq}
use Rattle.std.proofs.lemmas.Option.{none-some, same_Some}
use Rattle.clap.specs.declared.parser.matches.ArgMatches.{ArgMatches}
use Rattle.bn_model.specs.CommandLines as flat
use Rattle.bn_front.specs.Commands.{word_id}
use Rattle.bn_front.specs.Items.{Finds, gen_by, run_by, run_in, texts_under}

-- ---- pages stay in their frames

abbrev Differs : flat.Name → Type 0
Differs name = bytes_eq (flat.name_text flat.Moves) (flat.name_text name) ≡ false

abbrev AllDiffer : List flat.Name → Type 0
AllDiffer [] = Unit {0}
AllDiffer (name ∷ names) = Differs name × AllDiffer names

found_differs : (names : List flat.Name) (text : List ℕ) (name : flat.Name) → AllDiffer names
    → flat.named names text ≡ Some name → Differs name
found_differs [] text name differ is = absurd (none-some name is)
found_differs (other ∷ names) text name differ is =
    by_test (bytes_eq (flat.name_text other) text) is (found_differs names text name differ.1)
  where
    by_test : (t : Bool) → cond t (Some other) (flat.named names text) ≡ Some name
        → (flat.named names text ≡ Some name → Differs name) → Differs name
    by_test true here again = subst Differs (same_Some other name here) differ.0
    by_test false later again = again later

abbrev IsStill : flat.Stage → Type 0
IsStill flat.Free = Unit {0}
IsStill (flat.Awaiting name) = Differs name
IsStill flat.Marked = Unit {0}

abbrev ReadsStill : flat.Reading → Type 0
ReadsStill flat.Refused = Unit {0}
ReadsStill (flat.Reads items stage) = (flat.values_of flat.Moves items ≡ []) × IsStill stage

given_still : (name : flat.Name) (text : List ℕ) → Differs name
    → flat.values_of flat.Moves (flat.Given name text ∷ []) ≡ []
given_still name text differs =
    ap (λ (t : Bool). cons_option (flat.value_if t text) []) differs

option_still : (name : flat.Name) (given : Option (List ℕ)) → Differs name
    → ReadsStill (flat.long_read (Some name) given)
option_still name None differs = by_value (flat.takes_value name) where
  by_value : (b : Bool) → ReadsStill (flat.alone_if b name)
  by_value true = (refl, differs)
  by_value false = (given_still name [] differs, tt)
option_still name (Some text) differs = by_value (flat.takes_value name) text where
  by_value : (b : Bool) (own : List ℕ) → ReadsStill (flat.joined_if b name own)
  by_value true [] = tt
  by_value true (byte ∷ rest) = (given_still name (byte ∷ rest) differs, tt)
  by_value false own = tt

free_still : (form : flat.Form) (word : List ℕ)
    → ReadsStill (flat.free_read flat.still_names form word)
free_still flat.Ordinary word = (refl, tt)
free_still flat.Mark word = (refl, tt)
free_still flat.Short word = tt
free_still (flat.Long parts) word = by_name (flat.named flat.still_names parts.name) refl where
  by_name : (found : Option flat.Name) → flat.named flat.still_names parts.name ≡ found
      → ReadsStill (flat.long_read found parts.value)
  by_name None is = tt
  by_name (Some name) is = option_still name parts.value (found_differs flat.still_names parts.name
      name (refl, (refl, (refl, (refl, (refl, (refl, tt)))))) is)

value_still : (name : flat.Name) (form : flat.Form) (word : List ℕ) → Differs name
    → ReadsStill (flat.value_read name form word)
value_still name flat.Ordinary word differs = (given_still name word differs, tt)
value_still name flat.Mark word differs = tt
value_still name flat.Short word differs = tt
value_still name (flat.Long parts) word differs = tt

word_still : (stage : flat.Stage) (word : List ℕ) → IsStill stage
    → ReadsStill (flat.reading_at flat.still_names stage word)
word_still flat.Free word still = free_still (flat.form_of word) word
word_still (flat.Awaiting name) word still = value_still name (flat.form_of word) word still
word_still flat.Marked word still = (refl, tt)

values_joined : (name : flat.Name) (items more : List flat.Item)
    → flat.values_of name (items ++ more) ≡ flat.values_of name items ++ flat.values_of name more
values_joined name [] more = refl
values_joined name (item ∷ items) more =
    by_value (flat.value_in name item) (values_joined name items more)
  where
    by_value : (value : Option (List ℕ))
        → flat.values_of name (items ++ more)
        ≡ flat.values_of name items ++ flat.values_of name more
        → cons_option value (flat.values_of name (items ++ more))
        ≡ cons_option value (flat.values_of name items) ++ flat.values_of name more
    by_value None again = again
    by_value (Some text) again = ap (λ (texts : List (List ℕ)). text ∷ texts) again

abbrev AreStill : Option (List flat.Item) → Type 0
AreStill None = Unit {0}
AreStill (Some items) = flat.values_of flat.Moves items ≡ []

-- no words of a run move pages
items_still : (words : List (List ℕ)) (stage : flat.Stage) → IsStill stage
    → AreStill (flat.items_from flat.still_names stage words)
unfolding flat.items_from
items_still [] flat.Free still = refl
items_still [] (flat.Awaiting name) still = tt
items_still [] flat.Marked still = refl
items_still (word ∷ words) stage still =
    by_reading (flat.reading_at flat.still_names stage word) (word_still stage word still)
    (items_still words)
  where
    by_rest : (items : List flat.Item) (rest : Option (List flat.Item))
        → flat.values_of flat.Moves items ≡ [] → AreStill rest
        → AreStill (option_map (λ more. items ++ more) rest)
    by_rest items None now later = tt
    by_rest items (Some more) now later = values_joined flat.Moves items more ∙ ap₂ ◌++◌ now later

    by_reading : (reading : flat.Reading) → ReadsStill reading
        → ((next : flat.Stage) → IsStill next
        → AreStill (flat.items_from flat.still_names next words))
        → AreStill
        (flat.items_then reading (λ next. flat.items_from flat.still_names next words))
    by_reading flat.Refused reads rest = tt
    by_reading (flat.Reads items next) reads rest =
        by_rest items (flat.items_from flat.still_names next words) reads.0 (rest next reads.1)

-- ---- matches as orders

run_of_items : (items : List flat.Item) → flat.values_of flat.Moves items ≡ []
    → flat.run_of items ≡ run_by (λ name. flat.values_of name items) (flat.plain_words items)
unfolding flat.run_of
run_of_items items still = rw still refl

pub run_found : (words : List (List ℕ)) (matches : ArgMatches)
    → Finds (flat.items_from flat.still_names flat.Free words) (Ok matches)
    → flat.order_by flat.still_names flat.Running words ≡ run_in matches
run_found words matches finds = by_items (flat.items_from flat.still_names flat.Free words)
    (items_still words flat.Free tt) finds
  where
    by_items : (expected : Option (List flat.Item)) → AreStill expected
        → Finds expected (Ok matches)
        → flat.◌>>=◌ expected flat.run_of ≡ run_in matches
    by_items None still finds = absurd finds
    by_items (Some items) still finds = run_of_items items still
        ∙ sym (λ i. run_by (λ name. finds.given name i) (finds.plain i))

pub gen_found : (words : List (List ℕ)) (matches : ArgMatches)
    → Finds (flat.items_from [] flat.Free words) (Ok matches)
    → flat.order_by flat.still_names flat.Generating words ≡ gen_by (texts_under word_id matches)
unfolding flat.gen_of
gen_found words matches finds = by_items (flat.items_from [] flat.Free words) finds where
  by_items : (expected : Option (List flat.Item)) → Finds expected (Ok matches)
      → flat.◌>>=◌ expected flat.gen_of ≡ gen_by (texts_under word_id matches)
  by_items None finds = absurd finds
  by_items (Some items) finds = ap gen_by (sym finds.plain)
