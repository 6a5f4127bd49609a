-- Stored images, version 1: 8 bytes of magic, the number of records, and for each its identity of
-- 32 bytes and its 32 words. Numbers have 8 bytes, little endian. Identities strictly ascend.
use Rattle.std.specs.Prelude.{ℕ, zero, suc, ◌+◌, ◌*◌, ◌==◌, min, Bool, true, false, nat_lt, List}
use Rattle.std.specs.Prelude.{[], ◌∷◌, ◌++◌, Option, Some, None, length, take, drop, codes}
use Rattle.std.specs.Prelude.{flat_map}
use Rattle.std.specs.Int.{from_le_bytes, to_le_bytes, w64}
use Rattle.std.specs.declared.cmp.Ordering.{Ordering}
use Rattle.std.specs.declared.cmp.Ordering.TheVariants.{Less, Equal, Greater}
use Rattle.bn_types.specs.declared.digest.Digest.{Digest}
use Rattle.bn_types.specs.declared.record.Record.{Record}
use Rattle.bn_model.specs.Records.{identity_order}

abbrev pub store_magic : List ℕ
store_magic = codes "BNSTORE1"

-- ---- writing

abbrev pub words_text : List ℕ → List ℕ
words_text words = flat_map (to_le_bytes w64) words

abbrev pub record_text : Record → List ℕ
record_text r = r.who.0 ++ words_text r.words

abbrev pub records_text : List Record → List ℕ
records_text records = flat_map record_text records

-- the one spelling of some records
unfoldable pub image_of : List Record → List ℕ
image_of records = store_magic ++ to_le_bytes w64 (length records) ++ records_text records

-- ---- reading

-- what a text is read as
pub data Reading : Type 0 where
  Stored : (records : List Record) → Reading
  -- it is wrong at this place first
  Malformed : (at : ℕ) → Reading

-- the words that stand in a row
abbrev pub words_in : ℕ → List ℕ → List ℕ
words_in zero text = []
words_in (suc n) text = from_le_bytes w64 text ∷ words_in n (drop 8 text)

-- an identity of so many bytes and so many words
unfoldable pub record_of : (bytes words : ℕ) → List ℕ → Record
record_of bytes words text =
    record { who = record { 0 = take bytes text }; words = words_in words (drop bytes text) }

abbrev pub records_in : ℕ → List ℕ → List Record
records_in zero text = []
records_in (suc n) text = record_of 32 32 text ∷ records_in n (drop 288 text)

abbrev pub count_in : List ℕ → ℕ
count_in text = from_le_bytes w64 (drop 8 text)

-- the length of an image of so many records
abbrev pub image_size : ℕ → ℕ
image_size count = 16 + 288 * count

-- ---- faults, in the order in which they are told

abbrev pub unless_equal : Bool → ℕ → Option ℕ → Option ℕ
unless_equal true at rest = rest
unless_equal false at rest = Some at

-- the first byte that isn't the magic's
abbrev pub magic_fault : ℕ → List ℕ → List ℕ → Option ℕ
magic_fault at [] text = None
magic_fault at (m ∷ magic) [] = Some at
magic_fault at (m ∷ magic) (byte ∷ text) =
    unless_equal (byte == m) at (magic_fault (at + 1) magic text)

-- a length that isn't that of so many records: where the shorter of both ends
abbrev pub length_fault : Bool → ℕ → ℕ → Option ℕ
length_fault true size wanted = None
length_fault false size wanted = Some (min size wanted)

-- more than 64 records: at the count
abbrev pub count_fault : Bool → List ℕ → Option ℕ
count_fault true text = Some 8
count_fault false text =
    length_fault (length text == image_size (count_in text)) (length text)
    (image_size (count_in text))

abbrev pub after_magic : Option ℕ → List ℕ → Option ℕ
after_magic (Some at) text = Some at
after_magic None text = count_fault (nat_lt 64 (count_in text)) text

-- no room for magic and count: at the end
abbrev pub head_fault_by : Bool → List ℕ → Option ℕ
head_fault_by true text = Some (length text)
head_fault_by false text = after_magic (magic_fault 0 store_magic text) text

abbrev pub head_fault : List ℕ → Option ℕ
head_fault text = head_fault_by (nat_lt (length text) 16) text

abbrev pub unless_above : Ordering → ℕ → Option ℕ → Option ℕ
unless_above Less at rest = rest
unless_above Equal at rest = Some at
unless_above Greater at rest = Some at

-- the first identity that isn't above the one before, of records that begin at a place
abbrev pub order_fault_after : ℕ → Digest → List Record → Option ℕ
order_fault_after at low [] = None
order_fault_after at low (first ∷ rest) =
    unless_above (identity_order low first.who) at (order_fault_after (at + 288) first.who rest)

abbrev pub order_fault : List Record → Option ℕ
order_fault [] = None
order_fault (first ∷ rest) = order_fault_after 304 first.who rest

abbrev pub read_by : Option ℕ → List Record → Reading
read_by (Some at) records = Malformed at
read_by None records = Stored records

abbrev pub unless_fault : Option ℕ → List Record → Reading
unless_fault (Some at) records = Malformed at
unless_fault None records = read_by (order_fault records) records

-- what a text is read as, or its first fault
unfoldable pub stored : List ℕ → Reading
stored text = unless_fault (head_fault text) (records_in (count_in text) (drop 16 text))
