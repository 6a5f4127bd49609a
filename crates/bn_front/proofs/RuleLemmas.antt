-- The arguments of a built command: how each is found.
use Rattle.std.proofs.Common.{◌≡◌, ◌∙◌, ℕ, Bool, true, false, not, ◌&&◌, List, [], ◌∷◌, Option}
use Rattle.std.proofs.Common.{Some, None, option_map, refl, ap, ap₂, cond}
use Rattle.std.specs.Prelude.{fold}
use Rattle.std.specs.List.{list_any}
use Rattle.std.specs.Str.{bytes_eq}
use Rattle.std.proofs.lemmas.Option.{none-some, same_Some}
use Rattle.clap.specs.Walk.{Row, Rule, Text, arg_by_id, arg_by_index, arg_by_long, arg_by_short}
use Rattle.clap.specs.Walk.{has_row, with_default}
use Rattle.clap.specs.Kinds.{Kinds, or_else}
use Rattle.clap.specs.Takes.{is_given}
use Rattle.clap.specs.Simple.{App, Shape, built, is_simple, new_shape}
use Rattle.clap.specs.Faults.{default_fault, defaults_fault, is_simple_and_free}
use Rattle.clap.specs.declared.builder.value_parser.ValueParser.TheVariants as parser
use Rattle.bn_model.specs.CommandLines as flat
use Rattle.bn_front.specs.Commands.{app_of_names, bare_app, option_rule_if, word_id, word_rule}
use Rattle.bn_front.specs.declared.tool.Tool.{Tool}
use Rattle.bn_front.specs.declared.tool.Tool.TheVariants as tool
use Rattle.bn_front.specs.Items.{names_of}

-- ---- a built command

abbrev pub built_if : (takes_value : Bool) → Text → Rule
built_if true name = record (option_rule_if true name) {
  range = Some (record { start_inclusive = 1; end_inclusive = 1 });
}
built_if false name = record (option_rule_if false name) { parser = Some parser.String }

abbrev pub built_option : flat.Name → Rule
built_option name = built_if (flat.takes_value name) (flat.name_text name)

abbrev pub built_word : Rule
built_word = record word_rule {
  parser = Some parser.String;
  range = Some (record { start_inclusive = 1; end_inclusive = 1 });
  index = Some 1;
}

abbrev pub built_rules : List flat.Name → List Rule
built_rules [] = built_word ∷ []
built_rules (name ∷ names) = built_option name ∷ built_rules names

abbrev pub shape : List Rule → Shape
shape rules = record (new_shape bare_app.top.name) {
  rules = rules;
  no_binary_name = true;
  disable_help_flag = true;
  disable_version_flag = true;
  disable_help_subcommand = true;
  is_built = true;
}

abbrev pub app_with : List Rule → App
app_with rules = record { top = shape rules; subs = [] }

-- what building makes of them
pub built_is : (tool : Tool)
    → built (app_of_names (names_of tool)) ≡ app_with (built_rules (names_of tool))
unfolding app_of_names
built_is tool.Run = refl
built_is tool.Gen = refl

pub app_is_free : (tool : Tool) → is_simple_and_free (app_of_names (names_of tool)) ≡ true
unfolding app_of_names
app_is_free tool.Run = refl
app_is_free tool.Gen = refl

pub app_is_simple : (tool : Tool) → is_simple (app_of_names (names_of tool)) ≡ true
unfolding app_of_names
app_is_simple tool.Run = refl
app_is_simple tool.Gen = refl

-- ---- how each is found

-- a name under which one of the options is found
abbrev pub IsNamed : List flat.Name → flat.Name → Type 0
IsNamed names name = flat.named names (flat.name_text name) ≡ Some name

mapped : {A B : Type 0} (f : A → B) (t : Bool) (x : A) (rest : Option A)
    → cond t (Some (f x)) (option_map f rest) ≡ option_map f (cond t (Some x) rest)
mapped f true x rest = refl
mapped f false x rest = refl

long_first : (b : Bool) (own text : Text) (rules : List Rule) (t : Bool) → bytes_eq own text ≡ t
    → arg_by_long (built_if b own ∷ rules) text
    ≡ cond (bytes_eq own text) (Some (built_if b own)) (arg_by_long rules text)
long_first true own text rules true e = rw e refl
long_first false own text rules true e = rw e refl
long_first true own text rules false e = rw e refl
long_first false own text rules false e = rw e refl

pub by_long : (names : List flat.Name) (text : Text)
    → arg_by_long (built_rules names) text ≡ option_map built_option (flat.named names text)
by_long [] text = refl
by_long (name ∷ names) text =
    long_first (flat.takes_value name) (flat.name_text name) text (built_rules names) _ refl
    ∙ ap (cond (bytes_eq (flat.name_text name) text) (Some (built_option name)))
    (by_long names text)
    ∙ mapped built_option (bytes_eq (flat.name_text name) text) name (flat.named names text)

id_first : (b : Bool) (own text : Text) (rules : List Rule)
    → arg_by_id (built_if b own ∷ rules) text
    ≡ cond (bytes_eq own text) (Some (built_if b own)) (arg_by_id rules text)
id_first true own text rules = refl
id_first false own text rules = refl

pub option_by_id : (names : List flat.Name) (text : Text) (name : flat.Name)
    → flat.named names text ≡ Some name
    → arg_by_id (built_rules names) text ≡ Some (built_option name)
option_by_id [] text name is = absurd (none-some name is)
option_by_id (other ∷ names) text name is =
    id_first (flat.takes_value other) (flat.name_text other) text (built_rules names)
    ∙ by_test (bytes_eq (flat.name_text other) text) is (option_by_id names text name)
  where
    by_test : (t : Bool) → cond t (Some other) (flat.named names text) ≡ Some name
        → (flat.named names text ≡ Some name
        → arg_by_id (built_rules names) text ≡ Some (built_option name))
        → cond t (Some (built_option other)) (arg_by_id (built_rules names) text)
        ≡ Some (built_option name)
    by_test true here again =
        ap (λ (n : flat.Name). Some (built_option n)) (same_Some other name here)
    by_test false later again = again later

-- no option is named as the plain words are
pub is_no_word : (name : flat.Name) → bytes_eq (flat.name_text name) word_id ≡ false
is_no_word flat.Ram = refl
is_no_word flat.Harts = refl
is_no_word flat.Steps = refl
is_no_word flat.ScriptFile = refl
is_no_word flat.Store = refl
is_no_word flat.Blinding = refl
is_no_word flat.Moves = refl

pub word_by_id : (names : List flat.Name) → arg_by_id (built_rules names) word_id ≡ Some built_word
word_by_id [] = refl
word_by_id (name ∷ names) =
    id_first (flat.takes_value name) (flat.name_text name) word_id (built_rules names)
    ∙ ap (λ (t : Bool). cond t (Some (built_option name)) (arg_by_id (built_rules names) word_id))
    (is_no_word name)
    ∙ word_by_id names

pub word_by_index : (names : List flat.Name)
    → arg_by_index (built_rules names) 1 ≡ Some built_word
word_by_index [] = refl
word_by_index (name ∷ names) =
    first (flat.takes_value name) (flat.name_text name) ∙ word_by_index names
  where
    first : (b : Bool) (own : Text) → arg_by_index (built_if b own ∷ built_rules names) 1
        ≡ arg_by_index (built_rules names) 1
    first true own = refl
    first false own = refl

pub by_short : (names : List flat.Name) (letter : ℕ)
    → arg_by_short (built_rules names) letter ≡ None
by_short [] letter = refl
by_short (name ∷ names) letter =
    first (flat.takes_value name) (flat.name_text name) ∙ by_short names letter
  where
    first : (b : Bool) (own : Text) → arg_by_short (built_if b own ∷ built_rules names) letter
        ≡ arg_by_short (built_rules names) letter
    first true own = refl
    first false own = refl

-- ---- nothing has a default, and nothing is required

nothing_due : (b : Bool) (own : Text) (rows : List Row) (t : Bool) → has_row own rows ≡ t
    → (default_fault rows (built_if b own) ≡ []) × (with_default rows (built_if b own) ≡ rows)
nothing_due true own rows true e = (rw e refl, rw e refl)
nothing_due true own rows false e = (rw e refl, rw e refl)
nothing_due false own rows true e = (rw e refl, rw e refl)
nothing_due false own rows false e = (rw e refl, rw e refl)

word_not_due : (rows : List Row) (t : Bool) → has_row word_id rows ≡ t
    → (default_fault rows built_word ≡ []) × (with_default rows built_word ≡ rows)
word_not_due rows true e = (rw e refl, rw e refl)
word_not_due rows false e = (rw e refl, rw e refl)

pub defaults_none : (names : List flat.Name) (rows : List Row)
    → (defaults_fault rows (built_rules names) ≡ [])
    × (fold with_default rows (built_rules names) ≡ rows)
unfolding defaults_fault
defaults_none [] rows =
    let word = word_not_due rows (has_row word_id rows) refl in
    (ap (λ (k : Kinds). or_else k []) word.0, word.1)
defaults_none (name ∷ names) rows =
    let own = nothing_due (flat.takes_value name) (flat.name_text name) rows _ refl in
    let rest = defaults_none names rows in (
      ap₂ or_else own.0
          (ap (λ (r : List Row). defaults_fault r (built_rules names)) own.1 ∙ rest.0),
      ap (λ (r : List Row). fold with_default r (built_rules names)) own.1 ∙ rest.1,
    )

pub none_wanted : (names : List flat.Name) (rows : List Row)
    → list_any (λ a. a.required && not (is_given a.id rows)) (built_rules names) ≡ false
none_wanted [] rows = refl
none_wanted (name ∷ names) rows =
    first (flat.takes_value name) (flat.name_text name) ∙ none_wanted names rows
  where
    first : (b : Bool) (own : Text)
        → list_any (λ a. a.required && not (is_given a.id rows))
        (built_if b own ∷ built_rules names)
        ≡ list_any (λ a. a.required && not (is_given a.id rows)) (built_rules names)
    first true own = refl
    first false own = refl
