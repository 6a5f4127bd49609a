-- Files by name, and what an answer of a desk says of them.
use Rattle.std.specs.Prelude.{◌≡◌, ℕ, List, take, Option, Some, None, Result, Ok, Err, IsSomeAnd}
use Rattle.std.specs.Map.{lookup}
use Rattle.std.specs.Str.{bytes_eq}
use Rattle.std.specs.Prelude.{Vec}
use Rattle.std.specs.declared.alloc.Global.{Global}
use Rattle.bn_edge.specs.declared.desk_fault.DeskFault.{DeskFault}
use Rattle.bn_edge.specs.declared.desk_fault.DeskFault.TheVariants.{Missing, Failed, Memory}

-- the bytes of the first file with the name
unfoldable pub file_named : List (List ℕ × List ℕ) → List ℕ → Option (List ℕ)
file_named files name = lookup (λ other. bytes_eq other name) files

-- what a fault says: a file is missing where none has the name
abbrev pub IsFaultOf : Option (List ℕ) → DeskFault → Type 0
IsFaultOf file Missing = file ≡ None
IsFaultOf file Failed = Unit {0}
IsFaultOf file Memory = Unit {0}

-- an answer gives at most the first `most` bytes of the file
abbrev pub IsAnswerOf : Option (List ℕ) → ℕ → Result (Vec ℕ Global) DeskFault → Type 0
IsAnswerOf file most (Ok bytes) = IsSomeAnd file (λ all. bytes.items ≡ take most all)
IsAnswerOf file most (Err fault) = IsFaultOf file fault

-- an answer agrees with the files, where they are told
abbrev pub Agrees :
    Option (List (List ℕ × List ℕ)) → List ℕ → ℕ → Result (Vec ℕ Global) DeskFault → Type 0
Agrees None name most answer = Unit {0}
Agrees (Some files) name most answer = IsAnswerOf (file_named files name) most answer
