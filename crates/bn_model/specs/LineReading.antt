-- How a line of the trace is read: a text is the pieces between its spaces, and each piece is a
-- field exactly where it is the spelling of a value of that field.
use Rattle.std.specs.Prelude.{ℕ, zero, suc, ℤ, pos, negsuc, ◌++◌, ◌+◌, ◌-◌, ◌^◌, ◌==◌, Bool, true}
use Rattle.std.specs.Prelude.{false, ◌&&◌, nat_lt, List, [], ◌∷◌, codes, drop, length, Option, Some}
use Rattle.std.specs.Prelude.{None, Result, Ok, Err, if◌then◌else◌}
use Rattle.std.specs.Int.{from_be_bytes, w64}
use Rattle.std.specs.List.{find, join_with_byte, list_all}
use Rattle.std.specs.Str.{bytes_eq}
use Rattle.hex.specs.Hex.{decode_sized}
use Rattle.hex.specs.declared.error.FromHexError.{FromHexError}
use Rattle.bn_types.specs.Numerals.{numeral_below}
use Rattle.bn_types.specs.Splitting.{split_by}
use Rattle.bn_types.specs.declared.finish.Finish.{Finish}
use Rattle.bn_types.specs.declared.finish.Finish.TheVariants.{Shutdown, Limit}
use Rattle.bn_types.specs.declared.kind.Kind.{Kind}
use Rattle.bn_types.specs.declared.kind.Kind.TheVariants as kind
use Rattle.bn_types.specs.declared.line.Line.{Line}
use Rattle.bn_types.specs.declared.line_fault.LineFault.{LineFault}
use Rattle.bn_types.specs.declared.request.Request.{Request}
use Rattle.bn_types.specs.declared.request.Request.TheVariants as request
use Rattle.bn_model.specs.declared.head.Head.{Head}
use Rattle.bn_model.specs.LineShapes.{Field, Decimal, Byte, Page, Word, Sha, Code, Access, Asked}
use Rattle.bn_model.specs.LineShapes.{Ended, ValueOf, Values, word_of, fields_of, line_of}
use Rattle.bn_model.specs.LineShapes.{with_parts, heads}
use Rattle.bn_model.specs.Spelling.{field_text}

-- ---- what lines have a spelling

abbrev pub is_byte : ℕ → Bool
is_byte byte = nat_lt byte 256

abbrev pub is_code : ℤ → Bool
is_code (pos code) = false
is_code (negsuc code) = nat_lt code (2 ^ 63)

-- a value in the range of its field
abbrev pub is_in : (field : Field) → ValueOf field → Bool
is_in (Decimal limit) number = nat_lt number limit
is_in Byte byte = is_byte byte
is_in Page page = nat_lt page (2 ^ 52)
is_in Word word = nat_lt word (2 ^ 64)
is_in Sha digest = length digest == 32 && list_all is_byte digest
is_in Code code = is_code code
is_in Access kind = true
is_in Asked request = true
is_in Ended finish = true

abbrev pub are_in : (fields : List Field) → Values fields → Bool
are_in [] values = true
are_in (field ∷ fields) values = is_in field values.0 && are_in fields values.1

abbrev pub parts_are_in : (head : Head) → Values (fields_of head) → Bool
parts_are_in head values = are_in (fields_of head) values

-- every field of the line is in its range
unfoldable pub is_line : Line → Bool
is_line line = with_parts line parts_are_in

-- ---- one field

abbrev pub byte_decoded : Result (List ℕ) FromHexError → Option ℕ
byte_decoded (Ok (byte ∷ [])) = Some byte
byte_decoded (Ok bytes) = None
byte_decoded (Err fault) = None

abbrev pub word_decoded : Result (List ℕ) FromHexError → Option ℕ
word_decoded (Ok bytes) = Some (from_be_bytes w64 bytes)
word_decoded (Err fault) = None

abbrev pub bytes_decoded : Result (List ℕ) FromHexError → Option (List ℕ)
bytes_decoded (Ok bytes) = Some bytes
bytes_decoded (Err fault) = None

abbrev pub negated : Option ℕ → Option ℤ
negated (Some (suc code)) = Some (negsuc code)
negated (Some zero) = None
negated None = None

abbrev pub kind_named : List ℕ → Option Kind
kind_named word =
    if bytes_eq word (codes "fetch") then Some kind.Fetch
    else if bytes_eq word (codes "load") then Some kind.Load
    else if bytes_eq word (codes "store") then Some kind.Store
    else None

abbrev pub request_named : List ℕ → Option Request
request_named word =
    if bytes_eq word (codes "launch") then Some request.Launch
    else if bytes_eq word (codes "call") then Some request.Call
    else if bytes_eq word (codes "evict") then Some request.Evict
    else if bytes_eq word (codes "sset") then Some request.Sset
    else None

abbrev pub finish_named : List ℕ → Option Finish
finish_named word =
    if bytes_eq word (codes "shutdown") then Some Shutdown
    else if bytes_eq word (codes "limit") then Some Limit
    else None

-- the only value that a piece can be the spelling of
abbrev pub guess : (field : Field) → List ℕ → Option (ValueOf field)
guess (Decimal limit) piece = numeral_below limit piece
guess Byte piece = byte_decoded (decode_sized piece 1)
guess Page piece = word_decoded (decode_sized (codes "000" ++ piece) 8)
guess Word piece = word_decoded (decode_sized piece 8)
guess Sha piece = bytes_decoded (decode_sized piece 32)
guess Code piece = negated (numeral_below (2 ^ 63 + 1) (drop 1 piece))
guess Access piece = kind_named piece
guess Asked piece = request_named piece
guess Ended piece = finish_named piece

abbrev pub value_if : {A : Type 0} → Bool → A → Option A
value_if true value = Some value
value_if false value = None

abbrev pub spelled_value : (field : Field) → List ℕ → Option (ValueOf field)
    → Option (ValueOf field)
spelled_value field piece None = None
spelled_value field piece (Some value) =
    value_if (is_in field value && bytes_eq (field_text field value) piece) value

-- the value in the field's range that the piece is the spelling of
unfoldable pub value_of : (field : Field) → List ℕ → Option (ValueOf field)
value_of field piece = spelled_value field piece (guess field piece)

-- ---- the fields of a line. An error tells how many bytes of the line are left where it comes

infixl 10 ◌>>=◌
abbrev pub ◌>>=◌ : {A B : Type 0} → Result A ℕ → (A → Result B ℕ) → Result B ℕ
Ok value >>= next = next value
Err left >>= next = Err left

-- what is left of a line from the first of these pieces on
abbrev pub bytes_left : List (List ℕ) → ℕ
bytes_left pieces = length (join_with_byte 32 pieces)

abbrev pub field_if : {A : Type 0} → Option A → List (List ℕ) → List (List ℕ)
    → Result (A × List (List ℕ)) ℕ
field_if None pieces more = Err (bytes_left pieces)
field_if (Some value) pieces more = Ok (value, more)

-- the first piece as that field, and the pieces after it
unfoldable pub field_at : (field : Field) → List (List ℕ) → Result (ValueOf field × List (List ℕ)) ℕ
field_at field [] = Err 0
field_at field (piece ∷ pieces) = field_if (value_of field piece) (piece ∷ pieces) pieces

-- no piece is left over
unfoldable pub end_at : List (List ℕ) → Result (Unit {0}) ℕ
end_at [] = Ok tt
end_at (piece ∷ pieces) = Err (bytes_left (piece ∷ pieces))

-- the pieces as these fields, and what is made of their values
abbrev pub read_fields :
    {A : Type 0} → (fields : List Field) → List (List ℕ) → (Values fields → A) → Result A ℕ
read_fields [] pieces make = end_at pieces >>= (λ done. Ok (make tt))
read_fields (field ∷ fields) pieces make =
    field_at field pieces >>= (λ read. read_fields fields read.1 (λ values. make (read.0, values)))

-- a line of that kind, whose fields after the first word are these pieces
unfoldable pub line_after : Head → List (List ℕ) → Result Line ℕ
line_after head pieces = read_fields (fields_of head) pieces (line_of head)

unfoldable pub head_named : List ℕ → Option Head
head_named word = find (λ head. bytes_eq word (word_of head)) heads

abbrev pub line_headed : Option Head → (left : ℕ) → List (List ℕ) → Result Line ℕ
line_headed None left pieces = Err left
line_headed (Some head) left pieces = line_after head pieces

abbrev pub line_in : List (List ℕ) → Result Line ℕ
line_in [] = Err 0
line_in (word ∷ pieces) = line_headed (head_named word) (bytes_left (word ∷ pieces)) pieces

-- ---- the whole

-- a line with its length, or the place of its fault
abbrev pub placed : ℕ → Result Line ℕ → Result (Line × ℕ) LineFault
placed len (Ok line) = Ok (line, len + 1)
placed len (Err left) = Err (record { at = len - left })

abbrev pub first_line : List (List ℕ) → Result (Line × ℕ) LineFault
first_line [] = Err (record { at = 0 })
first_line (text ∷ []) = Err (record { at = length text })
first_line (text ∷ more ∷ texts) = placed (length text) (line_in (split_by 32 text))

-- the line that a text begins with, and its length with the line feed; else where the text stops
-- being one
unfoldable pub read_of : List ℕ → Result (Line × ℕ) LineFault
read_of text = first_line (split_by 10 text)
