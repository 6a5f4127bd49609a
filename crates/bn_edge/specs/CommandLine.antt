-- The words of a command line, which may not be told.
use Rattle.std.specs.Prelude.{◌≡◌, ℕ, ◌≤◌, ◌<◌, List, [], get_or, length, map, take, Option, Some}
use Rattle.std.specs.Prelude.{None, Result, Ok, Err, Vec, IfSome}
use Rattle.std.specs.declared.alloc.Global.{Global}
use Rattle.bn_edge.specs.declared.word_fault.WordFault.{WordFault}
use Rattle.bn_edge.specs.declared.word_fault.WordFault.TheVariants.{Past, Long}

-- words as lists of bytes
abbrev pub bytes_of_words : List (Vec ℕ Global) → List (List ℕ)
bytes_of_words words = map (λ word. word.items) words

-- the words are those that are told, where they are
abbrev pub AreTold : Option (List (List ℕ)) → List (List ℕ) → Type 0
AreTold told words = IfSome told (λ all. words ≡ all)

-- a word was copied to the start of a room, or is longer
abbrev pub IsCopy : List ℕ → Result ℕ WordFault → List ℕ → Type 0
IsCopy word (Ok count) room = (count ≤ length room) × (take count room ≡ word)
IsCopy word (Err Past) room = ⊥
IsCopy word (Err Long) room = length room < length word

-- an answer of the number-th word
abbrev pub IsAnswerOf : List (List ℕ) → ℕ → Result ℕ WordFault → List ℕ → Type 0
IsAnswerOf words number (Ok count) room =
    (number < length words) × (take count room ≡ get_or words number [])
IsAnswerOf words number (Err Past) room = length words ≤ number
IsAnswerOf words number (Err Long) room =
    (number < length words) × (length room < length (get_or words number []))

abbrev pub IsWordOf : Option (List (List ℕ)) → ℕ → Result ℕ WordFault → List ℕ → Type 0
IsWordOf told number answer room = IfSome told (λ words. IsAnswerOf words number answer room)

-- a word was found, or there are no more
abbrev pub IsFoundIn : List (List ℕ) → ℕ → Option (Vec ℕ Global) → Type 0
IsFoundIn words number (Some word) = (number < length words) × (word.items ≡ get_or words number [])
IsFoundIn words number None = length words ≤ number
