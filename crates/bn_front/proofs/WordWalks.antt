-- All words of a command line, as clap reads them.
use Rattle.std.proofs.Common.{◌≡◌, ◌∙◌, Bool, true, false, List, [], ◌∷◌, ◌++◌, append_assoc}
use Rattle.std.proofs.Common.{Option, Some, None, option_map, refl, sym, ap, ap₂, subst, cond}
use Rattle.std.proofs.Common.{append-nil}
use Rattle.std.specs.List.{list_all}
use Rattle.std.proofs.lemmas.Bool.{and_parts}
use Rattle.clap.specs.Walk.{Row, Text, Waiting, Walk, finished, idle, nothing_held, positional}
use Rattle.clap.specs.Walk.{rows_after, settled_rows, walked}
use Rattle.clap.specs.Kinds.{Kinds, or_else}
use Rattle.clap.specs.Simple as shown
use Rattle.clap.specs.Simple.{App, argument_words, matches_of}
use Rattle.clap.specs.Faults.{built_fault, fault_of, settle_fault, turn_fault, walk_fault}
use Rattle.clap.specs.declared.error.kind.ErrorKind.TheVariants as kind
use Rattle.bn_model.specs.CommandLines as flat
use Rattle.bn_front.specs.Commands.{app_of_names}
use Rattle.bn_front.specs.declared.tool.Tool.{Tool}
use Rattle.bn_front.specs.declared.tool.Tool.TheVariants as tool
use Rattle.bn_front.specs.Items.{names_of}
use Rattle.bn_front.proofs.RuleLemmas.{built_is, built_rules, defaults_none, none_wanted, shape}
use Rattle.bn_front.proofs.WordSteps.{Fails, IsSettled, IsWaiting, Pending, Place, Stands, Steps}
use Rattle.bn_front.proofs.WordSteps.{all_walked, awaits, each_step, end_fault, fails, fails_first}
use Rattle.bn_front.proofs.WordSteps.{fault_from, free, held, marked, missing, rest_fault}
use Rattle.bn_front.proofs.WordSteps.{rows_of_items, stage_of, walk_at, walk_of}

abbrev joined : List flat.Item → Option (List flat.Item) → Option (List flat.Item)
joined items rest = option_map (λ more. items ++ more) rest

joined_twice : (items new : List flat.Item) (rest : Option (List flat.Item))
    → joined (items ++ new) rest ≡ joined items (joined new rest)
joined_twice items new None = refl
joined_twice items new (Some more) = ap Some (append_assoc items new more)

-- what clap finds in the words is what they give
abbrev pub Agrees : Option (List flat.Item) → Kinds → List Row → Type 0
Agrees None kinds rows = Fails kinds
Agrees (Some items) kinds rows = (kinds ≡ []) × (rows ≡ rows_of_items items)

module _ (names : List flat.Name) where
  abbrev AgreesFrom : Option (List flat.Item) → Walk → List Text → Type 0
  AgreesFrom expected w words = Agrees expected (fault_from names w words)
      (finished (built_rules names) (all_walked names w words).held)

  -- ---- after the last word

  settled_end : (items : List flat.Item) (rows : List Row) (pending : Pending)
      (waiting : Waiting) (is_trailing : Bool) → IsSettled names items rows pending
      → AgreesFrom (Some (items ++ [])) (walk_at rows pending waiting is_trailing) []
  unfolding walk_fault
  settled_end items rows pending waiting is_trailing s =
      let due = defaults_none names (settled_rows (built_rules names) pending rows) in (
        ap₂ or_else s.sound (ap₂ or_else due.0
            (ap (λ (t : Bool). cond t (kind.MissingRequiredArgument ∷ []) [])
            (none_wanted names (finished (built_rules names) (held rows pending))))),
        due.1 ∙ s.found ∙ ap rows_of_items (sym (append-nil items)),
      )

  awaited_end : (items : List flat.Item) (rows : List Row) (name : flat.Name)
      → IsWaiting names items rows name
      → Fails (fault_from names (walk_of (awaits rows name)) [])
  unfolding walk_fault
  awaited_end items rows name s =
      fails_first
      (settle_fault (built_rules names) false (held rows (Some (flat.name_text name, []))))
      (rest_fault names (walk_of (awaits rows name)))
      (fails _ kind.InvalidValue [] (missing names items rows name s))

  at_end : (items : List flat.Item) (place : Place) → Stands names items place
      → AgreesFrom (joined items (flat.items_at_end (stage_of place))) (walk_of place) []
  at_end items (free rows pending true) s = settled_end items rows pending positional false s
  at_end items (free rows pending false) s = settled_end items rows pending idle false s
  at_end items (awaits rows name) s = awaited_end items rows name s
  at_end items (marked rows pending waiting) s = settled_end items rows pending waiting true s

  -- ---- every word

  next_word : (items new : List flat.Item) (w to : Walk) (word : Text) (words : List Text)
      (rest : Option (List flat.Item))
      → turn_fault (shape (built_rules names)) [] w word ≡ []
      → walked (built_rules names) [] w word ≡ to
      → AgreesFrom (joined (items ++ new) rest) to words
      → AgreesFrom (joined items (joined new rest)) w (word ∷ words)
  unfolding walk_fault
  next_word items new w to word words rest silent goes agrees =
      subst (λ (e : Option (List flat.Item)). At e
      (turn_fault (shape (built_rules names)) [] w word)
      (walked (built_rules names) [] w word)) (joined_twice items new rest)
      (subst (λ (v : Walk). At (joined (items ++ new) rest)
      (turn_fault (shape (built_rules names)) [] w word) v) (sym goes)
      (subst (λ (k : Kinds). At (joined (items ++ new) rest) k to) (sym silent) agrees))
    where
      At : Option (List flat.Item) → Kinds → Walk → Type 0
      At e k v = Agrees e
          (or_else (or_else k (walk_fault (shape (built_rules names)) [] v words))
          (end_fault names (all_walked names v words)))
          (finished (built_rules names) (all_walked names v words).held)

  pub all_words : (words : List Text) → list_all flat.is_some_text words ≡ true
      → (items : List flat.Item) (place : Place) → Stands names items place
      → AgreesFrom (joined items (flat.items_from names (stage_of place) words))
      (walk_of place) words
  unfolding flat.items_from
  all_words [] texts items place stands = at_end items place stands
  all_words (word ∷ words) texts items place stands =
      let parts = and_parts (flat.is_some_text word) (list_all flat.is_some_text words) texts in
      by_reading (flat.reading_at names (stage_of place) word)
      (each_step names items place word parts.0 stands) (all_words words parts.1)
    where
      by_reading : (reading : flat.Reading) → Steps names items place word reading
          → ((more : List flat.Item) (to : Place) → Stands names more to
          → AgreesFrom (joined more (flat.items_from names (stage_of to) words)) (walk_of to) words)
          → AgreesFrom (joined items
          (flat.items_then reading (λ stage. flat.items_from names stage words)))
          (walk_of place) (word ∷ words)
      by_reading flat.Refused refuted rest = refuted words
      by_reading (flat.Reads new stage) step rest =
          subst (λ (s : flat.Stage). AgreesFrom (joined items (joined new
          (flat.items_from names s words))) (walk_of place) (word ∷ words)) step.1
          (next_word items new (walk_of place) (walk_of step.0) word words
          (flat.items_from names (stage_of step.0) words) step.2 step.3
          (rest (items ++ new) step.0 step.4))

-- ---- from the first word on

abbrev first_place : Place
first_place = free [] None false

words_of : (tool : Tool) (words : List Text)
    → argument_words (app_of_names (names_of tool)) words ≡ words
unfolding app_of_names
words_of tool.Run words = refl
words_of tool.Gen words = refl

fault_is : (tool : Tool) (words : List Text)
    → fault_of (app_of_names (names_of tool)) words
    ≡ fault_from (names_of tool) (walk_of first_place) words
fault_is tool words = ap₂ (λ (a : App) (ws : List Text). built_fault a nothing_held ws)
    (built_is tool) (words_of tool words)

matches_are : (tool : Tool) (words : List Text)
    → matches_of (app_of_names (names_of tool)) words
    ≡ finished (built_rules (names_of tool))
    (all_walked (names_of tool) (walk_of first_place) words).held
matches_are tool words =
    ap₂ (λ (a : App) (ws : List Text). rows_after a.top.rules (shown.names_of a) ws)
    (built_is tool) (words_of tool words)

none_before : (rest : Option (List flat.Item)) → joined [] rest ≡ rest
none_before None = refl
none_before (Some items) = refl

pub words_agree : (tool : Tool) (words : List Text) → list_all flat.is_some_text words ≡ true
    → Agrees (flat.items_from (names_of tool) flat.Free words)
    (fault_of (app_of_names (names_of tool)) words)
    (matches_of (app_of_names (names_of tool)) words)
words_agree tool words texts =
    let found = flat.items_from (names_of tool) flat.Free words in
    let start : IsSettled (names_of tool) [] [] None = record { found = refl; sound = refl } in
    subst (λ (k : Kinds). Agrees found k (matches_of (app_of_names (names_of tool)) words))
    (sym (fault_is tool words))
    (subst (λ (r : List Row). Agrees found
    (fault_from (names_of tool) (walk_of first_place) words) r) (sym (matches_are tool words))
    (subst (λ (e : Option (List flat.Item)). Agrees e
    (fault_from (names_of tool) (walk_of first_place) words)
    (finished (built_rules (names_of tool))
    (all_walked (names_of tool) (walk_of first_place) words).held)) (none_before found)
    (all_words (names_of tool) words texts [] first_place start)))
