-- The commands that read the words of a tool, before they are built.
use Rattle.std.specs.Prelude.{Bool, true, false, List, [], ◌∷◌, Some, codes}
use Rattle.clap.specs.Walk.{Rule, Text}
use Rattle.clap.specs.Simple.{App, new_app, new_rule, with_rule}
use Rattle.clap.specs.declared.builder.action.ArgAction.TheVariants.{Append}
use Rattle.clap.specs.declared.builder.value_parser.ValueParser.TheVariants as parser
use Rattle.bn_model.specs.CommandLines as flat

-- an option of this name, each use of which is kept
abbrev named_rule : Text → Rule
named_rule name = record (new_rule name) { long = Some name; action = Some Append }

-- with a value that isn't empty, or with none, so that each use counts as an empty text
abbrev pub option_rule_if : (takes_value : Bool) → Text → Rule
option_rule_if true name = record (named_rule name) { parser = Some parser.NonEmptyString }
option_rule_if false name = record (named_rule name) {
  range = Some (record { start_inclusive = 0; end_inclusive = 0 });
  missing = [] ∷ [];
}

abbrev pub option_rule : flat.Name → Rule
option_rule name = option_rule_if (flat.takes_value name) (flat.name_text name)

-- how the plain words are found
abbrev pub word_id : Text
word_id = codes "word"

abbrev pub word_rule : Rule
word_rule = record (new_rule word_id) { action = Some Append }

-- a command without arguments of its own, and without those for help and the version
abbrev pub bare_app : App
bare_app = record (new_app (codes "bastion")) {
  top = record (new_app (codes "bastion")).top {
    no_binary_name = true;
    disable_help_flag = true;
    disable_version_flag = true;
  };
}

abbrev pub with_options : App → List flat.Name → App
with_options app [] = app
with_options app (name ∷ names) = with_options (with_rule app (option_rule name)) names

-- the command of these options and of plain words
unfoldable pub app_of_names : List flat.Name → App
app_of_names names = with_rule (with_options bare_app names) word_rule
