-- Fronts of script files, and the text without commands.
use Rattle.std.proofs.Common.{◌≡◌, ℕ, ◌<◌, ◌≤◌, ◌⊎◌, inl, inr, Bool, nat_lt, List, [], length}
use Rattle.std.proofs.Common.{take, Result, Ok, Err, refl, sym, ap, ◌∙◌, arith}
use Rattle.std.proofs.lemmas.Bool.{cases_lt, lt-ltb}
use Rattle.std.proofs.lemmas.List.{length-take-le, take_all}
use Rattle.bn_types.specs.Splitting.{split_by}
use Rattle.bn_types.specs.declared.script_fault.ScriptFault.{ScriptFault}
use Rattle.bn_types.specs.declared.script_sort.ScriptSort.TheVariants as sort
use Rattle.bn_model.specs.declared.command.Command.{Command}
use Rattle.bn_model.specs.Scripts.{Script, commands_from, commands_if, commands_of}
use Rattle.bn_model.specs.Scripts.{most_script_bytes, ordered_by, script_if, script_in, script_of}

-- the text of no bytes orders nothing
pub no_script : (harts : ℕ) → script_in harts [] ≡ Ok (script_of harts [])
unfolding script_in commands_of commands_from ordered_by split_by
no_script harts = refl

commands_within : (most harts : ℕ) → List ℕ → Result (List Command) ScriptFault
commands_within most harts text = commands_if (nat_lt most (length text)) harts text

too_long : (most harts : ℕ) (text : List ℕ) → most < length text
    → commands_within most harts text ≡ Err (record { line = 0; sort = sort.Long })
unfolding commands_within
too_long most harts text long =
    ap (λ (b : Bool). commands_if b harts text) (lt-ltb most (length text) long)

front_within : (most n harts : ℕ) (text : List ℕ) → most < n
    → commands_within most harts (take n text) ≡ commands_within most harts text
front_within most n harts text more = by_cases (cases_lt (length text) n) where
  by_cases : (length text < n) ⊎ (n ≤ length text)
      → commands_within most harts (take n text) ≡ commands_within most harts text
  by_cases (inl short) = ap (commands_within most harts) (take_all n text (omega arith))
  by_cases (inr many) =
      let front = length-take-le n text many in
      too_long most harts (take n text) (omega arith)
      ∙ sym (too_long most harts text (omega arith))

commands_front : (n harts : ℕ) (text : List ℕ) → most_script_bytes < n
    → commands_of harts (take n text) ≡ commands_of harts text
unfolding commands_of commands_within
commands_front n harts text more = front_within most_script_bytes n harts text more

-- more bytes than a script may have tell what the whole file comes to
pub front_of_script : (n harts : ℕ) (text : List ℕ) → most_script_bytes < n
    → script_in harts (take n text) ≡ script_in harts text
unfolding script_in
front_of_script n harts text more = ap (script_if harts) (commands_front n harts text more)

-- a script is for the harts for which it was read
pub script_harts : (harts : ℕ) (text : List ℕ) (script : Script) → script_in harts text ≡ Ok script
    → script.harts ≡ harts
unfolding script_in
script_harts harts text script e = by_commands (commands_of harts text) e where
  by_commands : (read : Result (List Command) ScriptFault) → script_if harts read ≡ Ok script
      → script.harts ≡ harts
  by_commands (Ok commands) said =
      let same : script_of harts commands ≡ script = cc in
      ap (λ (s : Script). s.harts) (sym same)
  by_commands (Err why) said = absurd cc
