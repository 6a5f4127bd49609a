-- Records: the words that secure modules keep beyond their lives, 32 for each identity. A list of
-- at most 64, their identities strictly ascending by bytes.
use Rattle.std.specs.Prelude.{◌≡◌, ℕ, ◌^◌, ◌<◌, ◌≤◌, All, Bool, true, false, nat_lt, List, [], ◌∷◌}
use Rattle.std.specs.Prelude.{Option, Some, None, length, replicate, slice_index_or, slice_set}
use Rattle.std.specs.Ordering.{nat_cmp}
use Rattle.std.specs.Cmp.Lexicographic.{slice_cmp}
use Rattle.std.specs.declared.cmp.Ordering.{Ordering}
use Rattle.std.specs.declared.cmp.Ordering.TheVariants.{Less, Equal, Greater}
use Rattle.bn_types.specs.declared.digest.Digest.{Digest}
use Rattle.bn_types.specs.declared.record.Record.{Record}
use Rattle.bn_types.specs.declared.set_refused.SetRefused.{SetRefused}
use Rattle.bn_types.specs.declared.set_refused.SetRefused.TheVariants.{BadIndex, Full}

-- identities are ordered by their bytes, the first that differs deciding
abbrev pub identity_order : Digest → Digest → Ordering
identity_order a b = slice_cmp nat_cmp a.0 b.0

-- ---- reading

-- the words of an identity, given how it lies to the first record and what the others have
abbrev pub words_by : Ordering → Record → Option (List ℕ) → Option (List ℕ)
words_by Less first rest = None
words_by Equal first rest = Some first.words
words_by Greater first rest = rest

-- the words of an identity, where it has any
unfoldable pub words_of : List Record → Digest → Option (List ℕ)
words_of [] who = None
words_of (first ∷ rest) who = words_by (identity_order who first.who) first (words_of rest who)

abbrev pub word_in : Option (List ℕ) → ℕ → ℕ
word_in None index = 0
word_in (Some words) index = slice_index_or words index 0

-- a word of an identity: 0 where the index is above 31 or the identity has no words
abbrev pub get_word : List Record → Digest → ℕ → ℕ
get_word records who index = word_in (words_of records who) index

-- ---- setting

-- the record of an identity that had no words
abbrev pub new_record : Digest → ℕ → ℕ → Record
new_record who index value = record { who = who; words = slice_set (replicate 32 0) index value }

abbrev pub set_by : Ordering → Record → List Record → List Record → Digest → ℕ → ℕ → List Record
set_by Less first rest after who index value = new_record who index value ∷ first ∷ rest
set_by Equal first rest after who index value = record first
    { words = slice_set first.words index value } ∷ rest
set_by Greater first rest after who index value = first ∷ after

-- the records after a word is set, in a record made in its place where the identity had none
unfoldable pub set_word : List Record → Digest → ℕ → ℕ → List Record
set_word [] who index value = new_record who index value ∷ []
set_word (first ∷ rest) who index value =
    set_by (identity_order who first.who) first rest (set_word rest who index value) who index value

-- ---- refusals of a set

abbrev pub full_when : Bool → Option SetRefused
full_when true = None
full_when false = Some Full

-- an identity that has words has its place
abbrev pub refused_place : Option (List ℕ) → ℕ → Option SetRefused
refused_place (Some words) count = None
refused_place None count = full_when (nat_lt count 64)

abbrev pub refused_at : Bool → List Record → Digest → Option SetRefused
refused_at false records who = Some BadIndex
refused_at true records who = refused_place (words_of records who) (length records)

-- why a word isn't set: an index above 31, and then a new identity beside 64 others
abbrev pub set_refusal : List Record → Digest → ℕ → Option SetRefused
set_refusal records who index = refused_at (nat_lt index 32) records who

-- ---- records in good order

-- an identity of 32 bytes and 32 words of 64 bits
pub record IsWhole (r : Record) : Type 0 where
  pub identity : length r.who.0 ≡ 32
  pub count : length r.words ≡ 32
  pub small : All (λ word. word < 2 ^ 64) r.words

-- all identities are above this one
abbrev pub AreAbove : Digest → List Record → Type 0
AreAbove low [] = Unit {0}
AreAbove low (first ∷ rest) = (identity_order low first.who ≡ Less) × AreAbove first.who rest

-- identities strictly ascend
abbrev pub Ascend : List Record → Type 0
Ascend [] = Unit {0}
Ascend (first ∷ rest) = AreAbove first.who rest

pub record AreRecords (records : List Record) : Type 0 where
  pub few : length records ≤ 64
  pub ascending : Ascend records
  pub whole : All IsWhole records
