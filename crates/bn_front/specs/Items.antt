-- What the code reads of words, as the definitions have it.
use Rattle.std.specs.Prelude.{◌≡◌, ◌≢◌, ℕ, List, [], ◌∷◌, Option, Some, None, option_map, unwrap_or}
use Rattle.std.specs.Prelude.{Result, Ok, Err, false, ◌-◌, ◌^◌}
use Rattle.clap.specs.Words.{found_of, kind_of, matched_of, raw_values}
use Rattle.clap.specs.declared.error.Error.{Error}
use Rattle.clap.specs.declared.error.kind.ErrorKind.TheVariants as kind
use Rattle.clap.specs.declared.parser.matches.ArgMatches.{ArgMatches}
use Rattle.bn_model.specs.CommandLines as flat
use Rattle.bn_model.specs.CommandLines.{◌>>=◌}
use Rattle.bn_front.specs.Commands.{word_id}
use Rattle.bn_front.specs.declared.option_name.OptionName.{OptionName}
use Rattle.bn_front.specs.declared.option_name.OptionName.TheVariants as option
use Rattle.bn_front.specs.declared.tool.Tool.{Tool}
use Rattle.bn_front.specs.declared.tool.Tool.TheVariants as tool
use Rattle.bn_front.specs.declared.words_error.WordsError.{WordsError}
use Rattle.bn_front.specs.declared.words_error.WordsError.TheVariants as error

abbrev pub tool_meant : Tool → flat.Tool
tool_meant tool.Run = flat.Running
tool_meant tool.Gen = flat.Generating

abbrev pub name_meant : OptionName → flat.Name
name_meant option.Ram = flat.Ram
name_meant option.Harts = flat.Harts
name_meant option.Steps = flat.Steps
name_meant option.Script = flat.ScriptFile
name_meant option.Store = flat.Store
name_meant option.Blind = flat.Blinding

-- the options of a tool
abbrev pub names_of : Tool → List flat.Name
names_of tool.Run = flat.still_names
names_of tool.Gen = []

-- ---- matches

-- why there are none
abbrev pub Explains : Error → WordsError → Type 0
Explains fault error.Words = kind_of fault ≢ kind.OutOfMemory
Explains fault error.Memory = kind_of fault ≡ kind.OutOfMemory

-- the texts that were found under an id
abbrev pub texts_under : List ℕ → ArgMatches → List (List ℕ)
texts_under id matches = unwrap_or (option_map raw_values (matched_of (found_of matches) id)) []

-- the matches hold what the items say
pub record Holds (items : List flat.Item) (matches : ArgMatches) : Type 0 where
  pub given : (name : flat.Name)
      → texts_under (flat.name_text name) matches ≡ flat.values_of name items
  pub plain : texts_under word_id matches ≡ flat.plain_words items

-- matches come exactly where there are items, and hold those
abbrev pub Finds : Option (List flat.Item) → Result ArgMatches WordsError → Type 0
Finds None (Ok matches) = ⊥
Finds (Some items) (Ok matches) = Holds items matches
Finds expected (Err error.Words) = expected ≡ None
Finds expected (Err error.Memory) = Unit {0}

-- the only text, where there is one; None where there are several
abbrev pub lone : List (List ℕ) → Option (Option (List ℕ))
lone [] = Some None
lone (text ∷ []) = Some (Some text)
lone (text ∷ other ∷ texts) = None

-- ---- orders

-- what is run, by the values that are given for each option and by the plain words; no page is
-- moved to another frame
abbrev pub run_by : (given : flat.Name → List (List ℕ)) → (plain : List (List ℕ))
    → Option flat.Order
run_by given plain =
    flat.only_one plain
    >>= (λ image. flat.at_most_one 1024 (flat.number_between 16 4096) (given flat.Ram)
    >>= (λ ram. flat.at_most_one 1 (flat.number_between 1 4) (given flat.Harts)
    >>= (λ harts. flat.at_most_one 1000000 (flat.number_between 0 1000000000) (given flat.Steps)
    >>= (λ steps. flat.at_most_one None flat.file_of (given flat.ScriptFile)
    >>= (λ script. flat.at_most_one false flat.flag_of (given flat.Store)
    >>= (λ is_stored. flat.at_most_one None flat.blind_of (given flat.Blinding)
    >>= (λ blind. Some (flat.Run (record {
      image = image;
      ram_pages = ram;
      harts = harts;
      steps = steps;
      script = script;
      is_stored = is_stored;
      blind = blind;
      moves = 0;
    })))))))))

abbrev pub run_in : ArgMatches → Option flat.Order
run_in matches =
    run_by (λ name. texts_under (flat.name_text name) matches) (texts_under word_id matches)

abbrev pub gen_by : (plain : List (List ℕ)) → Option flat.Order
gen_by plain =
    flat.only_one plain
    >>= (λ word. option_map flat.Gen (flat.number_between 0 (2 ^ 64 - 1) word))
