-- The words of a whole command line (this project's own grammar): `run` with all its options, and
-- `gen`.
use Rattle.std.specs.Prelude.{ℕ, ◌-◌, ◌^◌, ◌==◌, Bool, true, false, ◌&&◌, nat_le, List, [], ◌∷◌}
use Rattle.std.specs.Prelude.{◌++◌, bytes_eq, codes, decimal, filter_map, find, Option, Some, None}
use Rattle.std.specs.Prelude.{option_map}
use Rattle.std.specs.List.{list_all}
use Rattle.std.specs.Str.{is_utf8}
use Rattle.std.specs.Str.Parse.{digits_value}
use Rattle.bn_types.specs.Splitting.{split_by}
use Rattle.bn_model.specs.Running.{Blind}

-- ---- options

pub data Name : Type 0 where
  Ram : Name
  Harts : Name
  Steps : Name
  ScriptFile : Name
  Store : Name
  Blinding : Name
  Moves : Name

-- how an option is named, after `--`
abbrev pub name_text : Name → List ℕ
name_text Ram = codes "ram"
name_text Harts = codes "harts"
name_text Steps = codes "steps"
name_text ScriptFile = codes "script"
name_text Store = codes "store"
name_text Blinding = codes "blind"
name_text Moves = codes "move"

-- all options but one have a value
abbrev pub takes_value : Name → Bool
takes_value Store = false
takes_value name = true

-- the options of `run` on a machine whose pages stay in their frames, and all of them; `gen` has
-- none
abbrev pub still_names : List Name
still_names = Ram ∷ Harts ∷ Steps ∷ ScriptFile ∷ Store ∷ Blinding ∷ []

abbrev pub all_names : List Name
all_names = Moves ∷ still_names

-- the option of a name: there are no abbreviations
abbrev pub named : List Name → List ℕ → Option Name
named names text = find (λ name. bytes_eq (name_text name) text) names

-- ---- one word by itself

-- what stands before a word's first `=`, and what after it where it has one
pub record Cut : Type 0 where
  pub name : List ℕ
  pub value : Option (List ℕ)

abbrev pub cut_if : (is_mark : Bool) → ℕ → List ℕ → Cut → Cut
cut_if true byte text rest = record { name = []; value = Some text }
cut_if false byte text rest = record { name = byte ∷ rest.name; value = rest.value }

unfoldable pub cut : List ℕ → Cut
cut [] = record { name = []; value = None }
cut (byte ∷ text) = cut_if (byte == 61) byte text (cut text)

-- how a word begins
pub data Form : Type 0 where
  -- not with `-`, or it is a lone `-`
  Ordinary : Form
  -- it is `--`
  Mark : Form
  -- with one `-`
  Short : Form
  -- with `--`
  Long : (parts : Cut) → Form

abbrev pub long_form : List ℕ → Form
long_form [] = Mark
long_form (byte ∷ text) = Long (cut (byte ∷ text))

abbrev pub form_if : (is_dashed is_twice : Bool) → List ℕ → Form
form_if false is_twice text = Ordinary
form_if true false text = Short
form_if true true text = long_form text

unfoldable pub form_of : List ℕ → Form
form_of [] = Ordinary
form_of (first ∷ []) = Ordinary
form_of (first ∷ second ∷ text) = form_if (first == 45) (second == 45) text

-- ---- one word after others

-- what a command line is made of
pub data Item : Type 0 where
  Plain : (word : List ℕ) → Item
  -- an option and its value, which is empty where it takes none
  Given : (name : Name) → (value : List ℕ) → Item

-- what the words so far leave to come
pub data Stage : Type 0 where
  -- an option or a plain word
  Free : Stage
  -- this option's value
  Awaiting : (name : Name) → Stage
  -- plain words alone, since `--` has come
  Marked : Stage

-- what a word gives, and what it leaves to come
pub data Reading : Type 0 where
  Reads : (items : List Item) → (next : Stage) → Reading
  Refused : Reading

-- an option without `=`
abbrev pub alone_if : (takes_value : Bool) → Name → Reading
alone_if true name = Reads [] (Awaiting name)
alone_if false name = Reads (Given name [] ∷ []) Free

-- an option with `=`, after which a value stands that isn't empty
abbrev pub joined_if : (takes_value : Bool) → Name → List ℕ → Reading
joined_if true name [] = Refused
joined_if true name (byte ∷ text) = Reads (Given name (byte ∷ text) ∷ []) Free
joined_if false name value = Refused

abbrev pub long_read : Option Name → Option (List ℕ) → Reading
long_read None value = Refused
long_read (Some name) None = alone_if (takes_value name) name
long_read (Some name) (Some value) = joined_if (takes_value name) name value

abbrev pub free_read : List Name → Form → List ℕ → Reading
free_read names Ordinary word = Reads (Plain word ∷ []) Free
free_read names Mark word = Reads [] Marked
free_read names Short word = Refused
free_read names (Long parts) word = long_read (named names parts.name) parts.value

-- a value in a word of its own doesn't begin with `-`, unless it is `-`
abbrev pub value_read : Name → Form → List ℕ → Reading
value_read name Ordinary word = Reads (Given name word ∷ []) Free
value_read name form word = Refused

abbrev pub reading_at : List Name → Stage → List ℕ → Reading
reading_at names Free word = free_read names (form_of word) word
reading_at names (Awaiting name) word = value_read name (form_of word) word
reading_at names Marked word = Reads (Plain word ∷ []) Marked

-- ---- all words

abbrev pub items_then : Reading → (Stage → Option (List Item)) → Option (List Item)
items_then Refused rest = None
items_then (Reads items next) rest = option_map (λ more. items ++ more) (rest next)

-- an option that awaits its value at the end has none
abbrev pub items_at_end : Stage → Option (List Item)
items_at_end Free = Some []
items_at_end (Awaiting name) = None
items_at_end Marked = Some []

-- what some words give in order, of a command with these options
unfoldable pub items_from : List Name → Stage → List (List ℕ) → Option (List Item)
items_from names stage [] = items_at_end stage
items_from names stage (word ∷ words) =
    items_then (reading_at names stage word) (λ next. items_from names next words)

-- ---- what they come to

abbrev pub plain_in : Item → Option (List ℕ)
plain_in (Plain word) = Some word
plain_in (Given name value) = None

abbrev pub plain_words : List Item → List (List ℕ)
plain_words items = filter_map plain_in items

abbrev pub value_if : (is_same : Bool) → List ℕ → Option (List ℕ)
value_if true value = Some value
value_if false value = None

abbrev pub value_in : Name → Item → Option (List ℕ)
value_in name (Plain word) = None
value_in name (Given other value) =
    value_if (bytes_eq (name_text name) (name_text other)) value

-- the values that are given for an option
abbrev pub values_of : Name → List Item → List (List ℕ)
values_of name items = filter_map (value_in name) items

-- one word, where there is exactly one
abbrev pub only_one : List (List ℕ) → Option (List ℕ)
only_one [] = None
only_one (word ∷ []) = Some word
only_one (word ∷ other ∷ words) = None

-- What an option comes to: what holds without it, or what its value is read as. An option that is
-- given twice, or whose value has no reading, is refused.
abbrev pub at_most_one :
    {A : Type 0} → (absent : A) → (List ℕ → Option A) → List (List ℕ) → Option A
at_most_one absent read [] = Some absent
at_most_one absent read (value ∷ []) = read value
at_most_one absent read (value ∷ other ∷ values) = None

-- ---- numbers

abbrev pub number_if : Bool → ℕ → Option ℕ
number_if true n = Some n
number_if false n = None

-- a number is spelled in decimal, without leading zeros
abbrev pub is_number : List ℕ → Bool
is_number word = bytes_eq (decimal (digits_value 10 word)) word

abbrev pub is_between : (least most n : ℕ) → Bool
is_between least most n = nat_le least n && nat_le n most

-- the number of a word, from least to most
unfoldable pub number_between : (least most : ℕ) → List ℕ → Option ℕ
number_between least most word =
    number_if (is_number word && is_between least most (digits_value 10 word))
    (digits_value 10 word)

-- ---- a module and an event

abbrev pub blind_with : Option ℕ → Option ℕ → Option (Option Blind)
blind_with (Some m) (Some k) = Some (Some (record { blinded = record { 0 = m }; event = k }))
blind_with (Some m) None = None
blind_with None k = None

abbrev pub blind_in : List (List ℕ) → Option (Option Blind)
blind_in (m ∷ k ∷ []) = blind_with (number_between 1 65535 m) (number_between 0 1000000000 k)
blind_in pieces = None

-- `M@K`: a module, and the event before which it is blinded
unfoldable pub blind_of : List ℕ → Option (Option Blind)
blind_of value = blind_in (split_by 64 value)

-- ---- other values

abbrev pub file_of : List ℕ → Option (Option (List ℕ))
file_of value = Some (Some value)

abbrev pub flag_of : List ℕ → Option Bool
flag_of value = Some true

-- ---- orders

pub record RunOrder : Type 0 where
  -- the image's file
  pub image : List ℕ
  pub ram_pages : ℕ
  pub harts : ℕ
  -- the most events
  pub steps : ℕ
  -- the script's file, where there is one
  pub script : Option (List ℕ)
  -- the run opens the store and commits it at the end
  pub is_stored : Bool
  pub blind : Option Blind
  -- after how many events a page is moved to another frame, or 0
  pub moves : ℕ

-- what a command line orders
pub data Order : Type 0 where
  Run : (run : RunOrder) → Order
  Gen : (number : ℕ) → Order

infixl 10 ◌>>=◌
abbrev pub ◌>>=◌ : {A B : Type 0} → Option A → (A → Option B) → Option B
Some value >>= next = next value
None >>= next = None

-- one plain word, and each option at most once
unfoldable pub run_of : List Item → Option Order
run_of items =
    only_one (plain_words items)
    >>= (λ image. at_most_one 1024 (number_between 16 4096) (values_of Ram items)
    >>= (λ ram. at_most_one 1 (number_between 1 4) (values_of Harts items)
    >>= (λ harts. at_most_one 1000000 (number_between 0 1000000000) (values_of Steps items)
    >>= (λ steps. at_most_one None file_of (values_of ScriptFile items)
    >>= (λ script. at_most_one false flag_of (values_of Store items)
    >>= (λ is_stored. at_most_one None blind_of (values_of Blinding items)
    >>= (λ blind. at_most_one 0 (number_between 0 1000000000) (values_of Moves items)
    >>= (λ moves. Some (Run (record {
      image = image;
      ram_pages = ram;
      harts = harts;
      steps = steps;
      script = script;
      is_stored = is_stored;
      blind = blind;
      moves = moves;
    }))))))))))

-- one plain word, a number below 2^64
unfoldable pub gen_of : List Item → Option Order
gen_of items =
    only_one (plain_words items)
    >>= (λ word. option_map Gen (number_between 0 (2 ^ 64 - 1) word))

-- ---- the whole

-- no word is empty: neither a plain one nor a value
abbrev pub is_some_text : List ℕ → Bool
is_some_text [] = false
is_some_text (first ∷ text) = is_utf8 (first ∷ text)

pub data Tool : Type 0 where
  Running : Tool
  Generating : Tool

abbrev pub tool_name : Tool → List ℕ
tool_name Running = codes "run"
tool_name Generating = codes "gen"

abbrev pub tool_of : List ℕ → Option Tool
tool_of word = find (λ tool. bytes_eq (tool_name tool) word) (Running ∷ Generating ∷ [])

abbrev pub order_by : (run_names : List Name) → Tool → List (List ℕ) → Option Order
order_by run_names Running words = items_from run_names Free words >>= run_of
order_by run_names Generating words = items_from [] Free words >>= gen_of

abbrev pub order_if : (are_texts : Bool) → List Name → List (List ℕ) → Option Order
order_if false run_names words = None
order_if true run_names [] = None
order_if true run_names (word ∷ words) =
    tool_of word >>= (λ tool. order_by run_names tool words)

-- what some words order, where `run` has these options; None where they are no command line
unfoldable pub order_among : (run_names : List Name) → List (List ℕ) → Option Order
order_among run_names words = order_if (list_all is_some_text words) run_names words

-- what some words order
unfoldable pub order_of : List (List ℕ) → Option Order
order_of words = order_among all_names words
