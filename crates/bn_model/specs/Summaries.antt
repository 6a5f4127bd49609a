-- The run of what the generator makes, and the summary that tells of it: the number, how many
-- events were made, how often each kind of line came, and how the run ended.
use Rattle.std.specs.Prelude.{ℕ, ◌-◌, ◌*◌, Bool, true, false, not, List, [], ◌++◌, bytes_eq, codes}
use Rattle.std.specs.Prelude.{count_by, decimal, filter, flat_map, length, replicate, None}
use Rattle.hex.specs.Hex.{encode_lower}
use Rattle.bn_types.specs.declared.line.Line.{Line}
use Rattle.bn_model.specs.Generating.{Made}
use Rattle.bn_model.specs.Images.{ram_base}
use Rattle.bn_model.specs.LineShapes.{heads, with_parts, word_of}
use Rattle.bn_model.specs.Opening.{Image, opening}
use Rattle.bn_model.specs.Reporting.{public_digest}
use Rattle.bn_model.specs.Running.{Course}
use Rattle.bn_model.specs.Scripts.{first_events, script_of}
use Rattle.bn_model.specs.Spelling.{finish_word}
use Rattle.bn_model.specs.WholeRuns.{Start, finish_of}
use Rattle.bn_model.specs.declared.head.Head.{Head}
use Rattle.bn_model.specs.declared.head.Head.TheVariants as head

-- ---- the run

-- a raw image in RAM of so many bytes
abbrev pub raw_image : (size : ℕ) → List ℕ → Image
raw_image size bytes =
    record { bytes = bytes ++ replicate (size - length bytes) 0; entry = ram_base }

-- 64 pages of RAM, one hart, no store, and at most 1,000,000 events
unfoldable pub generated_start : Made → Start
generated_start made = record {
  state = opening 64 1 (raw_image (64 * 4096) made.image) [];
  events = first_events 1000000 (script_of 1 made.commands);
  blind = None;
}

-- ---- the summary

abbrev pub head_of : Line → Head
head_of line = with_parts line (λ kind values. kind)

abbrev pub is_of : Head → Line → Bool
is_of kind line = bytes_eq (word_of kind) (word_of (head_of line))

-- a kind of line, and how often it came
abbrev pub count_line : List Line → Head → List ℕ
count_line told kind =
    word_of kind ++ codes " " ++ decimal (count_by (is_of kind) told) ++ codes "\n"

abbrev pub is_end : Head → Bool
is_end head.End = true
is_end kind = false

-- every kind of line that an event gives, in order
abbrev pub event_heads : List Head
event_heads = filter (λ kind. not (is_end kind)) heads

abbrev pub count_lines : List Line → List ℕ
count_lines told = flat_map (count_line told) event_heads

-- how the run ended, and the digest of the pages that no module owns
abbrev pub ending_line : Course → List ℕ
ending_line run =
    codes "end " ++ finish_word (finish_of run) ++ codes " " ++
    encode_lower (public_digest run.last).0 ++ codes "\n"

unfoldable pub summary : (number : ℕ) → Course → List ℕ
summary number run =
    codes "gen " ++ decimal number ++ codes "\n" ++
    codes "events " ++ decimal run.last.clock ++ codes "\n" ++
    count_lines run.told ++ ending_line run
