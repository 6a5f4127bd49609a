-- How a line of the trace is written: its word and its fields, with one space between them, ended
-- by a line feed. Decimal numbers have no leading zeros, and hexadecimal digits are lower case.
use Rattle.std.specs.Prelude.{ℕ, List, [], ◌∷◌, ◌++◌, codes, decimal, drop, flat_map}
use Rattle.std.specs.Fmt.{signed_decimal}
use Rattle.std.specs.Int.{to_be_bytes, w64}
use Rattle.hex.specs.Hex.{encode_lower}
use Rattle.bn_types.specs.declared.finish.Finish.{Finish}
use Rattle.bn_types.specs.declared.finish.Finish.TheVariants.{Shutdown, Limit}
use Rattle.bn_types.specs.declared.kind.Kind.{Kind}
use Rattle.bn_types.specs.declared.kind.Kind.TheVariants as kind
use Rattle.bn_types.specs.declared.line.Line.{Line}
use Rattle.bn_types.specs.declared.request.Request.{Request}
use Rattle.bn_types.specs.declared.request.Request.TheVariants as request
use Rattle.bn_model.specs.declared.head.Head.{Head}
use Rattle.bn_model.specs.LineShapes.{Field, Decimal, Byte, Page, Word, Sha, Code, Access, Asked}
use Rattle.bn_model.specs.LineShapes.{Ended, ValueOf, Values, word_of, fields_of, with_parts}

abbrev pub finish_word : Finish → List ℕ
finish_word Shutdown = codes "shutdown"
finish_word Limit = codes "limit"

abbrev pub kind_word : Kind → List ℕ
kind_word kind.Fetch = codes "fetch"
kind_word kind.Load = codes "load"
kind_word kind.Store = codes "store"

abbrev pub request_word : Request → List ℕ
request_word request.Launch = codes "launch"
request_word request.Call = codes "call"
request_word request.Evict = codes "evict"
request_word request.Sset = codes "sset"

-- 64 bits as 16 hexadecimal digits
abbrev pub word_digits : ℕ → List ℕ
word_digits word = encode_lower (to_be_bytes w64 word)

-- the number of a virtual page, below 2^52, as 13 hexadecimal digits
abbrev pub page_digits : ℕ → List ℕ
page_digits page = drop 3 (word_digits page)

abbrev pub field_text : (field : Field) → ValueOf field → List ℕ
field_text (Decimal limit) number = decimal number
field_text Byte byte = encode_lower (byte ∷ [])
field_text Page page = page_digits page
field_text Word word = word_digits word
field_text Sha digest = encode_lower digest
field_text Code code = signed_decimal code
field_text Access kind = kind_word kind
field_text Asked request = request_word request
field_text Ended finish = finish_word finish

-- some fields, each after a space
abbrev pub fields_text : (fields : List Field) → Values fields → List ℕ
fields_text [] values = []
fields_text (field ∷ fields) values = 32 ∷ field_text field values.0 ++ fields_text fields values.1

abbrev pub spelling_of : (head : Head) → Values (fields_of head) → List ℕ
spelling_of head values = word_of head ++ fields_text (fields_of head) values ++ codes "\n"

unfoldable pub spelling : Line → List ℕ
spelling line = with_parts line spelling_of

-- the text of some lines
abbrev pub text_of : List Line → List ℕ
text_of told = flat_map spelling told
