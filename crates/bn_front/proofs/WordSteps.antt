-- Each word of a command line, as clap walks over it.
use Rattle.std.proofs.Common.{◌≡◌, ◌∙◌, ℕ, suc, Bool, true, false, ◌&&◌, List, [], ◌∷◌, ◌++◌}
use Rattle.std.proofs.Common.{Option, Some, None, option_map, is_some, refl, sym, ap, ap₂, cond}
use Rattle.std.proofs.Common.{true≢false, append-nil, arith, length, lt-ltb, nat_lt}
use Rattle.std.specs.Prelude.{drop, encode_utf8, fold, slice_get}
use Rattle.std.specs.Option.{option_map_or}
use Rattle.std.specs.Str.{bytes_eq, chars, is_utf8}
use Rattle.std.proofs.lemmas.List.Sums.{fold-append}
use Rattle.std.proofs.lemmas.Option.{none-some, same_Some}
use Rattle.std.proofs.lemmas.Slice.Eq.{bytes_eq-Decides}
use Rattle.clap.specs.Lexer.{long_of}
use Rattle.clap.specs.Walk.{Held, Row, Rule, Step, Text, Waiting, Walk, after_flag, after_step}
use Rattle.clap.specs.Walk.{finished, idle, is_pending, long_met}
use Rattle.clap.specs.Walk.{long_or_other, most_values, next, option, option_word, pending_count}
use Rattle.clap.specs.Walk.{plain_word, positional, pushed, settled, settled_rows, short_or_plain}
use Rattle.clap.specs.Walk.{subcommand_or_other, to_positional, trailing, used, used_by_id, value}
use Rattle.clap.specs.Walk.{walked, word_met}
use Rattle.clap.specs.Kinds.{Kinds, or_else}
use Rattle.clap.specs.Simple.{entered}
use Rattle.clap.specs.Faults.{bundle_fault, bundle_step_fault, check_fault, defaults_fault}
use Rattle.clap.specs.Faults.{entered_fault, flag_word_fault, flags_fault, long_fault, other_fault}
use Rattle.clap.specs.Faults.{positional_fault, settle_fault, short_fault, step_fault, stray_fault}
use Rattle.clap.specs.Faults.{turn_fault, use_fault, walk_fault, word_fault}
use Rattle.clap.specs.declared.error.kind.ErrorKind.{ErrorKind}
use Rattle.clap.specs.declared.error.kind.ErrorKind.TheVariants as kind
use Rattle.bn_model.specs.CommandLines as flat
use Rattle.bn_front.specs.Commands.{word_id}
use Rattle.bn_front.proofs.LexingLemmas.{Lexes, lexed, some_chars}
use Rattle.bn_front.proofs.RuleLemmas.{IsNamed, app_with, built_if, built_option, built_rules}
use Rattle.bn_front.proofs.RuleLemmas.{built_word, by_long, by_short, option_by_id, shape}
use Rattle.bn_front.proofs.RuleLemmas.{word_by_id}
use Rattle.bn_front.proofs.RuleLemmas.{word_by_index}

-- ---- what is found

-- the rows that items make
abbrev pub with_item : List Row → flat.Item → List Row
with_item rows (flat.Plain word) = used built_word (word ∷ []) rows
with_item rows (flat.Given name text) = used (built_option name) (text ∷ []) rows

abbrev pub rows_of_items : List flat.Item → List Row
rows_of_items items = fold with_item [] items

more_rows : (items new : List flat.Item)
    → rows_of_items (items ++ new) ≡ fold with_item (rows_of_items items) new
more_rows items new = fold-append with_item [] items new

-- ---- where a walk stands

abbrev pub Pending : Type 0
Pending = Option (Text × List Text)

abbrev pub held : List Row → Pending → Held
held rows pending = record { rows = rows; pending = pending; skip = 0 }

abbrev pub walk_at : List Row → Pending → Waiting → Bool → Walk
walk_at rows pending waiting is_trailing = record {
  held = held rows pending;
  waiting = waiting;
  position = 1;
  is_trailing = is_trailing;
  stopped = None;
}

-- between two words: an option or a plain word may come, or the value of an option, or plain words
-- alone
pub data Place : Type 0 where
  free : List Row → Pending → (after_word : Bool) → Place
  awaits : List Row → (name : flat.Name) → Place
  marked : List Row → Pending → Waiting → Place

abbrev pub loose : (after_word : Bool) → Waiting
loose true = positional
loose false = idle

abbrev pub walk_of : Place → Walk
walk_of (free rows pending after_word) = walk_at rows pending (loose after_word) false
walk_of (awaits rows name) =
    walk_at rows (Some (flat.name_text name, [])) (option (flat.name_text name)) false
walk_of (marked rows pending waiting) = walk_at rows pending waiting true

abbrev pub stage_of : Place → flat.Stage
stage_of (free rows pending after_word) = flat.Free
stage_of (awaits rows name) = flat.Awaiting name
stage_of (marked rows pending waiting) = flat.Marked

-- ---- faults

-- there is a fault
abbrev pub Fails : Kinds → Type 0
Fails kinds = kinds ≡ [] → ⊥

pub fails : (kinds : Kinds) (first : ErrorKind) (rest : Kinds) → kinds ≡ first ∷ rest → Fails kinds
fails kinds first rest is none =
    let long : length kinds ≡ suc (length rest) = ap length is in
    let short : length kinds ≡ 0 = ap length none in
    omega (arith, long, short)

pub fails_first : (now later : Kinds) → Fails now → Fails (or_else now later)
fails_first [] later now e = now refl
fails_first (first ∷ rest) later now e = now e

pub fails_later : (now later : Kinds) → Fails later → Fails (or_else now later)
fails_later [] later then e = then e
fails_later (first ∷ rest) later then e = fails (first ∷ rest) first rest refl e

and_false : {A : Type 0} (t : Bool) (a b : A) → cond (t && false) a b ≡ b
and_false true a b = refl
and_false false a b = refl

pub same_text : (text : Text) → bytes_eq text text ≡ true
same_text text = (bytes_eq-Decides text text).1 refl

some_value : (name : Text) (byte : ℕ) (text : Text) (rows : List Row)
    → use_fault false (built_if true name) ((byte ∷ text) ∷ []) rows ≡ []
some_value name byte text rows =
    ap (λ (t : Bool). or_else (cond t [] (kind.InvalidValue ∷ [])) [])
    (lt-ltb 0 (suc (length text)) (omega arith))

-- an option is found by its own name
own_text : (names : List flat.Name) (text : Text) (name : flat.Name)
    → flat.named names text ≡ Some name → flat.name_text name ≡ text
own_text [] text name is = absurd (none-some name is)
own_text (other ∷ names) text name is =
    by_test (bytes_eq (flat.name_text other) text) refl is (own_text names text name)
  where
    by_test : (t : Bool) → bytes_eq (flat.name_text other) text ≡ t
        → cond t (Some other) (flat.named names text) ≡ Some name
        → (flat.named names text ≡ Some name → flat.name_text name ≡ text)
        → flat.name_text name ≡ text
    by_test true e here again =
        ap (λ (n : flat.Name). flat.name_text n) (sym (same_Some other name here))
        ∙ (bytes_eq-Decides (flat.name_text other) text).0 e
    by_test false e later again = again later

self_named : (names : List flat.Name) (text : Text) (name : flat.Name)
    → flat.named names text ≡ Some name → IsNamed names name
self_named names text name is =
    ap (λ (t : Text). flat.named names t) (own_text names text name is) ∙ is

module _ (names : List flat.Name) where
  abbrev pub rules : List Rule
  rules = built_rules names

  -- what is pending can be settled, and the rows are then those of the items
  pub record IsSettled (items : List flat.Item) (rows : List Row) (pending : Pending) : Type 0 where
    pub found : settled_rows rules pending rows ≡ rows_of_items items
    pub sound : settle_fault rules false (held rows pending) ≡ []

  pub record IsWaiting (items : List flat.Item) (rows : List Row) (name : flat.Name) : Type 0 where
    pub found : rows ≡ rows_of_items items
    pub named : IsNamed names name
    pub valued : flat.takes_value name ≡ true

  abbrev pub Stands : List flat.Item → Place → Type 0
  Stands items (free rows pending after_word) = IsSettled items rows pending
  Stands items (awaits rows name) = IsWaiting items rows name
  Stands items (marked rows pending waiting) = IsSettled items rows pending

  abbrev pub all_walked : Walk → List Text → Walk
  all_walked w words = fold (walked rules []) w words

  -- the faults after the last word
  abbrev pub rest_fault : Walk → Kinds
  rest_fault w = or_else (defaults_fault (settled rules w.held).rows rules)
      (check_fault (shape rules) (finished rules w.held)
      (is_some (entered (app_with rules) w.stopped)))

  abbrev pub end_fault : Walk → Kinds
  end_fault w = or_else (entered_fault (app_with rules) w.stopped)
      (or_else (settle_fault rules false w.held) (rest_fault w))

  -- the faults of the rest of a walk
  abbrev pub fault_from : Walk → List Text → Kinds
  fault_from w words =
      or_else (walk_fault (shape rules) [] w words) (end_fault (all_walked w words))

  -- a word that is refused is a fault, now or later; after another the walk stands as it should
  abbrev pub Steps : List flat.Item → Place → Text → flat.Reading → Type 0
  Steps items place word flat.Refused =
      (words : List Text) → fault_from (walk_of place) (word ∷ words) ≡ [] → ⊥
  Steps items place word (flat.Reads new stage) = (to : Place) × (stage_of to ≡ stage)
      × (turn_fault (shape rules) [] (walk_of place) word ≡ [])
      × (walked rules [] (walk_of place) word ≡ walk_of to) × Stands (items ++ new) to

  -- ---- what a word does to a walk

  module _ (rows : List Row) (pending : Pending) (waiting : Waiting) (is_trailing : Bool)
      (word : Text) where
    abbrev here : Walk
    here = walk_at rows pending waiting is_trailing

    abbrev met : Held × Step
    met = word_met rules [] is_trailing waiting 1 word (held rows pending)

    abbrev said : Kinds
    said = word_fault (shape rules) [] is_trailing waiting word (held rows pending)

    stepped : (step : Held × Step) (to : Walk) → met ≡ step → said ≡ []
        → step_fault (shape rules) 1 step.0 step.1 ≡ []
        → after_step rules word here step.0 step.1 ≡ to
        → (turn_fault (shape rules) [] here word ≡ []) × (walked rules [] here word ≡ to)
    unfolding walked
    stepped step to does silent quiet goes = (
      ap₂ or_else silent
          (ap (λ (m : Held × Step). step_fault (shape rules) 1 m.0 m.1) does ∙ quiet),
      ap (λ (m : Held × Step). after_step rules word here m.0 m.1) does ∙ goes,
    )

    turn_refused : Fails (turn_fault (shape rules) [] here word) → (words : List Text)
        → Fails (fault_from here (word ∷ words))
    unfolding walk_fault
    turn_refused faulty words = fails_first _ _ (fails_first _ _ faulty)

    refused : Fails said → (words : List Text) → Fails (fault_from here (word ∷ words))
    refused faulty words = turn_refused (fails_first _ _ faulty) words

  -- the word goes to the plain words
  value_fault : (rows : List Row) (pending : Pending)
      → step_fault (shape rules) 1 (held rows pending) value
      ≡ settle_fault rules false (held rows pending)
  value_fault rows pending =
      ap (λ (o : Option Rule). option_map_or (λ a.
      positional_fault rules false a (held rows pending)) o (stray_fault (shape rules)))
      (word_by_index names)
      ∙ and_false (is_pending built_word pending) [] (settle_fault rules false (held rows pending))

  to_word : (rows : List Row) (pending : Pending) (waiting : Waiting) (is_trailing : Bool)
      (word : Text) → after_step rules word (walk_at rows pending waiting is_trailing)
      (held rows pending) value
      ≡ walk_at (settled_rows rules pending rows) (Some (word_id, word ∷ [])) positional is_trailing
  to_word rows pending waiting is_trailing word = by_mark is_trailing where
    by_mark : (t : Bool)
        → after_step rules word (walk_at rows pending waiting t) (held rows pending) value
        ≡ walk_at (settled_rows rules pending rows) (Some (word_id, word ∷ [])) positional t
    by_mark true =
        ap (λ (o : Option Rule). to_positional rules o word (walk_at rows pending waiting true)
        (held rows pending)) (word_by_index names)
        ∙ ap (λ (h : Held). record (walk_at rows pending waiting true) {
          held = pushed word_id word h;
          waiting = positional;
        }) (and_false (is_pending built_word pending) (held rows pending)
        (settled rules (held rows pending)))
    by_mark false =
        ap (λ (o : Option Rule). to_positional rules o word (walk_at rows pending waiting false)
        (held rows pending)) (word_by_index names)
        ∙ ap (λ (h : Held). record (walk_at rows pending waiting false) {
          held = pushed word_id word h;
          waiting = positional;
        }) (and_false (is_pending built_word pending) (held rows pending)
        (settled rules (held rows pending)))

  word_settled : (items : List flat.Item) (rows : List Row) (word : Text)
      → rows ≡ rows_of_items items
      → IsSettled (items ++ flat.Plain word ∷ []) rows (Some (word_id, word ∷ []))
  word_settled items rows word same = record {
    found = ap (λ (o : Option Rule). used_by_id o (word ∷ []) rows) (word_by_id names)
        ∙ ap (used built_word (word ∷ [])) same ∙ sym (more_rows items (flat.Plain word ∷ []));
    sound = ap (λ (o : Option Rule). option_map_or (λ a. use_fault false a (word ∷ []) rows) o [])
        (word_by_id names);
  }

  -- ---- plain words

  abbrev other_met : Waiting → Held → Text → Held × Step
  other_met waiting h word = subcommand_or_other rules None waiting 1 word h

  abbrev other_said : Held → Text → Kinds
  other_said h word = other_fault (shape rules) None word h

  plain_met : (waiting : Waiting) (h : Held) (word : Text) → Lexes flat.Ordinary word
      → other_met waiting h word ≡ plain_word rules waiting word h
  plain_met waiting h word lex =
      ap (λ (t : Bool). cond t (h, trailing 1) (long_or_other rules waiting word (long_of word) h))
      lex.0
      ∙ ap (λ (o : Option (Text × Option Text)). long_or_other rules waiting word o h) lex.1
      ∙ ap (λ (o : Option Text). short_or_plain rules waiting word o h) lex.2

  plain_said : (h : Held) (word : Text) → Lexes flat.Ordinary word → other_said h word ≡ []
  plain_said h word lex =
      ap (λ (t : Bool). cond t [] (flag_word_fault rules false (long_of word) word h)) lex.0
      ∙ ap (λ (o : Option (Text × Option Text)). flag_word_fault rules false o word h) lex.1
      ∙ ap (λ (o : Option Text). option_map_or (λ flags. bundle_fault rules false flags h) o [])
      lex.2

  free_plain : (items : List flat.Item) (rows : List Row) (pending : Pending)
      (after_word : Bool) (word : Text) → IsSettled items rows pending
      → Lexes flat.Ordinary word
      → Steps items (free rows pending after_word) word
      (flat.Reads (flat.Plain word ∷ []) flat.Free)
  free_plain items rows pending after_word word s lex = by_place after_word where
    by_place : (b : Bool) → Steps items (free rows pending b) word
        (flat.Reads (flat.Plain word ∷ []) flat.Free)
    by_place true =
        let turn = stepped rows pending positional false word (held rows pending, value) _
        (plain_met positional (held rows pending) word lex)
        (plain_said (held rows pending) word lex) (value_fault rows pending ∙ s.sound)
        (to_word rows pending positional false word) in (
          free (settled_rows rules pending rows) (Some (word_id, word ∷ [])) true,
          refl,
          turn.0,
          turn.1,
          word_settled items (settled_rows rules pending rows) word s.found,
        )
    by_place false =
        let turn = stepped rows pending idle false word (held rows pending, value) _
        (plain_met idle (held rows pending) word lex)
        (plain_said (held rows pending) word lex) (value_fault rows pending ∙ s.sound)
        (to_word rows pending idle false word) in (
          free (settled_rows rules pending rows) (Some (word_id, word ∷ [])) true,
          refl,
          turn.0,
          turn.1,
          word_settled items (settled_rows rules pending rows) word s.found,
        )

  marked_plain : (items : List flat.Item) (rows : List Row) (pending : Pending)
      (waiting : Waiting) (word : Text) → IsSettled items rows pending
      → Steps items (marked rows pending waiting) word
      (flat.Reads (flat.Plain word ∷ []) flat.Marked)
  marked_plain items rows pending waiting word s =
      let turn = stepped rows pending waiting true word (held rows pending, value) _ refl refl
      (value_fault rows pending ∙ s.sound) (to_word rows pending waiting true word) in (
        marked (settled_rows rules pending rows) (Some (word_id, word ∷ [])) positional,
        refl,
        turn.0,
        turn.1,
        word_settled items (settled_rows rules pending rows) word s.found,
      )

  -- ---- the mark

  free_mark : (items : List flat.Item) (rows : List Row) (pending : Pending)
      (after_word : Bool) (word : Text) → IsSettled items rows pending → Lexes flat.Mark word
      → Steps items (free rows pending after_word) word (flat.Reads [] flat.Marked)
  free_mark items rows pending after_word word s lex = by_place after_word where
    same : IsSettled (items ++ []) rows pending
    same = record {
      found = s.found ∙ ap rows_of_items (sym (append-nil items));
      sound = s.sound;
    }

    marks : (waiting : Waiting) → other_met waiting (held rows pending) word
        ≡ (held rows pending, trailing 1)
    marks waiting = ap (λ (t : Bool). cond t (held rows pending, trailing 1)
        (long_or_other rules waiting word (long_of word) (held rows pending))) lex

    silent : other_said (held rows pending) word ≡ []
    silent = ap (λ (t : Bool). cond t []
        (flag_word_fault rules false (long_of word) word (held rows pending))) lex

    by_place : (b : Bool) → Steps items (free rows pending b) word (flat.Reads [] flat.Marked)
    by_place true =
        let turn = stepped rows pending positional false word (held rows pending, trailing 1) _
        (marks positional) silent refl refl in
        (marked rows pending positional, refl, turn.0, turn.1, same)
    by_place false =
        let turn = stepped rows pending idle false word (held rows pending, trailing 1) _
        (marks idle) silent refl refl in
        (marked rows pending idle, refl, turn.0, turn.1, same)

  unknown : (letter : ℕ) (letters : List ℕ) (x : ℕ)
      → slice_get (chars (letter ∷ letters)) 0 ≡ Some x → (h : Held) → h.skip ≡ 0
      → bundle_fault rules false (letter ∷ letters) h ≡ kind.UnknownArgument ∷ []
  unfolding flags_fault
  unknown letter letters x is h skips =
      let empty = record h { skip = 0 } in
      let flags = letter ∷ letters in
      ap (λ (n : ℕ). flags_fault rules false (suc (length letters)) flags n empty) skips
      ∙ ap (λ (o : Option ℕ). bundle_step_fault rules false o flags 0 empty
      (flags_fault rules false (length letters))) is
      ∙ ap (λ (o : Option Rule). short_fault rules false o
      (drop (length (encode_utf8 x)) flags) empty
      (flags_fault rules false (length letters) (drop (length (encode_utf8 x)) flags) 0))
      (by_short names x)

  -- ---- options

  abbrev long_goes : Waiting → Held → Text → Option Rule → Option Text → Held × Step
  long_goes waiting h word rule given =
      after_flag rules waiting word (long_met rules rule given h).0 (long_met rules rule given h).1

  long_meets : (waiting : Waiting) (h : Held) (word : Text) (parts : flat.Cut)
      → Lexes (flat.Long parts) word
      → other_met waiting h word
      ≡ long_goes waiting h word (option_map built_option (flat.named names parts.name)) parts.value
  long_meets waiting h word parts lex =
      ap (λ (t : Bool). cond t (h, trailing 1) (long_or_other rules waiting word (long_of word) h))
      lex.0
      ∙ ap (λ (o : Option (Text × Option Text)). long_or_other rules waiting word o h) lex.1
      ∙ ap (λ (o : Option Rule). long_goes waiting h word o parts.value)
      (by_long names parts.name)

  long_said : (h : Held) (word : Text) (parts : flat.Cut) → Lexes (flat.Long parts) word
      → other_said h word
      ≡ long_fault rules false (option_map built_option (flat.named names parts.name)) parts.value h
  long_said h word parts lex =
      ap (λ (t : Bool). cond t [] (flag_word_fault rules false (long_of word) word h)) lex.0
      ∙ ap (λ (o : Option (Text × Option Text)). flag_word_fault rules false o word h) lex.1
      ∙ ap (λ (o : Option Rule). long_fault rules false o parts.value h)
      (by_long names parts.name)

  -- a use of an option settles what was pending
  used_settled : (items : List flat.Item) (rows : List Row) (name : flat.Name) (b : Bool)
      (text : Text) → flat.takes_value name ≡ b → rows ≡ rows_of_items items
      → used (built_if b (flat.name_text name)) (text ∷ []) rows
      ≡ rows_of_items (items ++ flat.Given name text ∷ [])
  used_settled items rows name b text is same =
      ap (used (built_if b (flat.name_text name)) (text ∷ [])) same
      ∙ ap (λ (t : Bool). used (built_if t (flat.name_text name)) (text ∷ []) (rows_of_items items))
      (sym is)
      ∙ sym (more_rows items (flat.Given name text ∷ []))

  module _ (items : List flat.Item) (rows : List Row) (pending : Pending) (waiting : Waiting)
      (word : Text) (place : Place) (name : flat.Name)
      (at : walk_of place ≡ walk_at rows pending waiting false)
      (s : IsSettled items rows pending) (named : IsNamed names name) where
    abbrev own : Text
    own = flat.name_text name

    abbrev after : List Row
    after = settled_rows rules pending rows

    abbrev Meets : Option Rule → Option Text → Type 0
    Meets rule given = met rows pending waiting false word
        ≡ long_goes waiting (held rows pending) word rule given

    abbrev Says : Option Rule → Option Text → Type 0
    Says rule given = said rows pending waiting false word
        ≡ long_fault rules false rule given (held rows pending)

    goes_to : (new : List flat.Item) (to : Place)
        → (turn_fault (shape rules) [] (walk_at rows pending waiting false) word ≡ [])
        × (walked rules [] (walk_at rows pending waiting false) word ≡ walk_of to)
        → Stands (items ++ new) to → Steps items place word (flat.Reads new (stage_of to))
    goes_to new to turn stands = (
      to,
      refl,
      ap (λ (w : Walk). turn_fault (shape rules) [] w word) at ∙ turn.0,
      ap (λ (w : Walk). walked rules [] w word) at ∙ turn.1,
      stands,
    )

    never : Fails (said rows pending waiting false word) → Steps items place word flat.Refused
    never faulty words none = refused rows pending waiting false word faulty words
        (ap (λ (w : Walk). fault_from w (word ∷ words)) (sym at) ∙ none)

    alone : (b : Bool) → flat.takes_value name ≡ b → Meets (Some (built_if b own)) None
        → Says (Some (built_if b own)) None → Steps items place word (flat.alone_if b name)
    alone true valued meets says = goes_to [] (awaits after name)
        (stepped rows pending waiting false word _ _ meets (says ∙ s.sound) refl refl)
        (record {
          found = s.found ∙ ap rows_of_items (sym (append-nil items));
          named = named;
          valued = valued;
        })
    alone false bare meets says = goes_to (flat.Given name [] ∷ [])
        (free (used (built_if false own) [] after) None false)
        (stepped rows pending waiting false word _ _ meets
        (says ∙ ap (λ (k : Kinds). or_else k (use_fault false (built_if false own) [] after))
        s.sound) refl refl)
        (record {
          found = used_settled items after name false [] bare s.found;
          sound = refl;
        })

    joined_by : (b : Bool) → flat.takes_value name ≡ b → (text : Text)
        → Meets (Some (built_if b own)) (Some text) → Says (Some (built_if b own)) (Some text)
        → Steps items place word (flat.joined_if b name text)
    joined_by true valued [] meets says = never (fails _ kind.InvalidValue []
        (says ∙ ap (λ (k : Kinds). or_else k
        (use_fault false (built_if true own) ([] ∷ []) after)) s.sound))
    joined_by true valued (byte ∷ text) meets says =
        goes_to (flat.Given name (byte ∷ text) ∷ [])
        (free (used (built_if true own) ((byte ∷ text) ∷ []) after) None false)
        (stepped rows pending waiting false word _ _ meets
        (says ∙ ap (λ (k : Kinds). or_else k
        (use_fault false (built_if true own) ((byte ∷ text) ∷ []) after)) s.sound
        ∙ some_value own byte text after) refl refl)
        (record {
          found = used_settled items after name true (byte ∷ text) valued s.found;
          sound = refl;
        })
    joined_by false bare text meets says =
        never (fails _ kind.TooManyValues [] says)

    named_long : (given : Option Text) → Meets (Some (built_option name)) given
        → Says (Some (built_option name)) given
        → Steps items place word (flat.long_read (Some name) given)
    named_long None meets says = alone (flat.takes_value name) refl meets says
    named_long (Some text) meets says = joined_by (flat.takes_value name) refl text meets says

  free_long : (items : List flat.Item) (rows : List Row) (pending : Pending)
      (after_word : Bool) (word : Text) (parts : flat.Cut) → IsSettled items rows pending
      → Lexes (flat.Long parts) word
      → Steps items (free rows pending after_word) word
      (flat.long_read (flat.named names parts.name) parts.value)
  free_long items rows pending after_word word parts s lex = by_place after_word where
    by_name : (b : Bool) (found : Option flat.Name) → flat.named names parts.name ≡ found
        → met rows pending (loose b) false word
        ≡ long_goes (loose b) (held rows pending) word (option_map built_option found) parts.value
        → said rows pending (loose b) false word
        ≡ long_fault rules false (option_map built_option found) parts.value (held rows pending)
        → Steps items (free rows pending b) word (flat.long_read found parts.value)
    by_name b None is meets says =
        refused rows pending (loose b) false word (fails _ kind.UnknownArgument [] says)
    by_name b (Some name) is meets says =
        named_long items rows pending (loose b) word (free rows pending b) name refl s
        (self_named names parts.name name is) parts.value meets says

    by_place : (b : Bool) → Steps items (free rows pending b) word
        (flat.long_read (flat.named names parts.name) parts.value)
    by_place true = by_name true (flat.named names parts.name) refl
        (long_meets positional (held rows pending) word parts lex)
        (long_said (held rows pending) word parts lex)
    by_place false = by_name false (flat.named names parts.name) refl
        (long_meets idle (held rows pending) word parts lex)
        (long_said (held rows pending) word parts lex)

  -- ---- words with one dash

  letter_said : (h : Held) (word : Text) → is_utf8 word ≡ true → Lexes flat.Short word → h.skip ≡ 0
      → other_said h word ≡ kind.UnknownArgument ∷ []
  letter_said h word text lex skips =
      let short = lex.2 in
      let letters = some_chars short.0 short.1 (ap is_utf8 (sym short.3) ∙ text) in
      ap (λ (t : Bool). cond t [] (flag_word_fault rules false (long_of word) word h)) lex.0
      ∙ ap (λ (o : Option (Text × Option Text)). flag_word_fault rules false o word h) lex.1
      ∙ ap (λ (o : Option Text). option_map_or (λ flags. bundle_fault rules false flags h) o [])
      short.2
      ∙ unknown short.0 short.1 letters.0 letters.1 h skips

  -- ---- the value of an option in a word of its own

  module _ (items : List flat.Item) (rows : List Row) (name : flat.Name)
      (s : IsWaiting items rows name) where
    abbrev pub text_of_name : Text
    text_of_name = flat.name_text name

    abbrev pub none_yet : Pending
    none_yet = Some (text_of_name, [])

    -- without a value the option is at fault
    pub missing : settle_fault rules false (held rows none_yet) ≡ kind.InvalidValue ∷ []
    missing =
        ap (λ (o : Option Rule). option_map_or (λ a. use_fault false a [] rows) o [])
        (option_by_id names text_of_name name s.named)
        ∙ ap (λ (b : Bool). use_fault false (built_if b text_of_name) [] rows) s.valued

    value_settled : (byte : ℕ) (text : Text)
        → IsSettled (items ++ flat.Given name (byte ∷ text) ∷ []) rows
        (Some (text_of_name, (byte ∷ text) ∷ []))
    value_settled byte text = record {
      found = ap (λ (o : Option Rule). used_by_id o ((byte ∷ text) ∷ []) rows)
          (option_by_id names text_of_name name s.named)
          ∙ used_settled items rows name (flat.takes_value name) (byte ∷ text) refl s.found;
      sound = ap (λ (o : Option Rule). option_map_or (λ a.
          use_fault false a ((byte ∷ text) ∷ []) rows) o [])
          (option_by_id names text_of_name name s.named)
          ∙ ap (λ (b : Bool).
          use_fault false (built_if b text_of_name) ((byte ∷ text) ∷ []) rows) s.valued
          ∙ some_value text_of_name byte text rows;
    }

    -- the option has its value
    filled_up : (byte : ℕ) (text : Text)
        → plain_word rules (option text_of_name) (byte ∷ text) (held rows none_yet)
        ≡ (held rows (Some (text_of_name, (byte ∷ text) ∷ [])), next idle)
    filled_up byte text =
        let filled = held rows (Some (text_of_name, (byte ∷ text) ∷ [])) in
        ap (λ (o : Option Rule). (
          (option_word o text_of_name (byte ∷ text) (held rows none_yet)).0,
          next (option_word o text_of_name (byte ∷ text) (held rows none_yet)).1,
        ))
        (option_by_id names text_of_name name s.named)
        ∙ ap (λ (b : Bool). (
          filled,
          next (cond
              (nat_lt (pending_count (built_if b text_of_name) filled.pending)
              (most_values (built_if b text_of_name))) (option text_of_name) idle),
        )) s.valued
        ∙ ap (λ (t : Bool). (
          filled,
          next (cond
              (nat_lt (cond t 1 0) 1) (option text_of_name) idle),
        )) (same_text text_of_name)

    given_value : (byte : ℕ) (text : Text) → Lexes flat.Ordinary (byte ∷ text)
        → Steps items (awaits rows name) (byte ∷ text)
        (flat.Reads (flat.Given name (byte ∷ text) ∷ []) flat.Free)
    given_value byte text lex =
        let turn = stepped rows none_yet (option text_of_name) false (byte ∷ text)
        (held rows (Some (text_of_name, (byte ∷ text) ∷ [])), next idle) _
        (plain_met (option text_of_name) (held rows none_yet) (byte ∷ text) lex
        ∙ filled_up byte text)
        (plain_said (held rows none_yet) (byte ∷ text) lex) refl refl in (
          free rows (Some (text_of_name, (byte ∷ text) ∷ [])) false,
          refl,
          turn.0,
          turn.1,
          value_settled byte text,
        )

    -- no word with dashes is a value
    late_fault : (waiting : Waiting) (words : List Text)
        → Fails (fault_from (walk_at rows none_yet waiting true) words)
    unfolding walk_fault
    late_fault waiting [] = fails_first (settle_fault rules false (held rows none_yet))
        (rest_fault (walk_at rows none_yet waiting true)) (fails _ kind.InvalidValue [] missing)
    late_fault waiting (word ∷ words) = turn_refused rows none_yet waiting true word
        (fails (step_fault (shape rules) 1 (held rows none_yet) value) kind.InvalidValue []
        (value_fault rows none_yet ∙ missing)) words

    no_mark : (word : Text) → Lexes flat.Mark word
        → Steps items (awaits rows name) word flat.Refused
    unfolding walk_fault
    no_mark word lex words none =
        let turn = stepped rows none_yet (option text_of_name) false word
        (held rows none_yet, trailing 1) (walk_at rows none_yet (option text_of_name) true)
        (ap (λ (t : Bool). cond t (held rows none_yet, trailing 1)
        (long_or_other rules (option text_of_name) word (long_of word) (held rows none_yet))) lex)
        (ap (λ (t : Bool). cond t []
        (flag_word_fault rules false (long_of word) word (held rows none_yet))) lex) refl refl in
        late_fault (option text_of_name) words
        (sym (ap₂ (λ (k : Kinds) (w : Walk). or_else
        (or_else k (walk_fault (shape rules) [] w words)) (end_fault (all_walked w words)))
        turn.0 turn.1) ∙ none)

    abbrev Tells : Text → Option Rule → Option Text → Type 0
    Tells word rule given = said rows none_yet (option text_of_name) false word
        ≡ long_fault rules false rule given (held rows none_yet)

    no_long : (word : Text) (parts : flat.Cut) → Lexes (flat.Long parts) word
        → Steps items (awaits rows name) word flat.Refused
    no_long word parts lex =
        refused rows none_yet (option text_of_name) false word
        (by_name (flat.named names parts.name) parts.value
        (long_said (held rows none_yet) word parts lex))
      where
        by_value : (b : Bool) (id : Text) (given : Option Text)
            → Tells word (Some (built_if b id)) given
            → Fails (said rows none_yet (option text_of_name) false word)
        by_value true id None says = fails _ kind.InvalidValue [] (says ∙ missing)
        by_value true id (Some text) says = fails _ kind.InvalidValue [] (says
            ∙ ap (λ (k : Kinds). or_else k (use_fault false (built_if true id) (text ∷ [])
            (settled_rows rules none_yet rows))) missing)
        by_value false id None says = fails _ kind.InvalidValue [] (says
            ∙ ap (λ (k : Kinds). or_else k (use_fault false (built_if false id) []
            (settled_rows rules none_yet rows))) missing)
        by_value false id (Some text) says = fails _ kind.TooManyValues [] says

        by_name : (found : Option flat.Name) (given : Option Text)
            → Tells word (option_map built_option found) given
            → Fails (said rows none_yet (option text_of_name) false word)
        by_name None given says = fails _ kind.UnknownArgument [] says
        by_name (Some other) given says =
            by_value (flat.takes_value other) (flat.name_text other) given says

    no_letters : (word : Text) → is_utf8 word ≡ true → Lexes flat.Short word
        → Steps items (awaits rows name) word flat.Refused
    no_letters word text lex = refused rows none_yet (option text_of_name) false word
        (fails _ kind.UnknownArgument [] (letter_said (held rows none_yet) word text lex refl))

    value_step : (form : flat.Form) (byte : ℕ) (text : Text) → is_utf8 (byte ∷ text) ≡ true
        → Lexes form (byte ∷ text)
        → Steps items (awaits rows name) (byte ∷ text) (flat.value_read name form (byte ∷ text))
    value_step flat.Ordinary byte text good lex = given_value byte text lex
    value_step flat.Mark byte text good lex = no_mark (byte ∷ text) lex
    value_step flat.Short byte text good lex = no_letters (byte ∷ text) good lex
    value_step (flat.Long parts) byte text good lex = no_long (byte ∷ text) parts lex

  -- ---- every word

  free_letters : (items : List flat.Item) (rows : List Row) (pending : Pending)
      (after_word : Bool) (word : Text) → is_utf8 word ≡ true → Lexes flat.Short word
      → Steps items (free rows pending after_word) word flat.Refused
  free_letters items rows pending true word text lex =
      refused rows pending positional false word
      (fails _ kind.UnknownArgument [] (letter_said (held rows pending) word text lex refl))
  free_letters items rows pending false word text lex =
      refused rows pending idle false word
      (fails _ kind.UnknownArgument [] (letter_said (held rows pending) word text lex refl))

  free_step : (items : List flat.Item) (rows : List Row) (pending : Pending) (after_word : Bool)
      (form : flat.Form) (word : Text) → is_utf8 word ≡ true → IsSettled items rows pending
      → Lexes form word
      → Steps items (free rows pending after_word) word (flat.free_read names form word)
  free_step items rows pending after_word flat.Ordinary word good s lex =
      free_plain items rows pending after_word word s lex
  free_step items rows pending after_word flat.Mark word good s lex =
      free_mark items rows pending after_word word s lex
  free_step items rows pending after_word flat.Short word good s lex =
      free_letters items rows pending after_word word good lex
  free_step items rows pending after_word (flat.Long parts) word good s lex =
      free_long items rows pending after_word word parts s lex

  pub each_step : (items : List flat.Item) (place : Place) (word : Text)
      → flat.is_some_text word ≡ true → Stands items place
      → Steps items place word (flat.reading_at names (stage_of place) word)
  each_step items place [] text stands = absurd (true≢false (sym text))
  each_step items (free rows pending after_word) (byte ∷ word) text s =
      free_step items rows pending after_word (flat.form_of (byte ∷ word)) (byte ∷ word) text s
      (lexed (byte ∷ word))
  each_step items (awaits rows name) (byte ∷ word) text s =
      value_step items rows name s (flat.form_of (byte ∷ word)) byte word text
      (lexed (byte ∷ word))
  each_step items (marked rows pending waiting) (byte ∷ word) text s =
      marked_plain items rows pending waiting (byte ∷ word) s
