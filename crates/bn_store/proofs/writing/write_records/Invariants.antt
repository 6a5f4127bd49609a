use Rattle.std.proofs.Common.{◌≡◌, ◌+◌, ◌*◌, ◌++◌, length, take, drop}
use Rattle.bn_model.specs.StoredImages.{records_text}
use Rattle.bn_store.proofs.writing.write_records.Given as goal

-- what is written and what is left are all records
abbrev pub invariant-loop-record : goal.invariant-loop-record
invariant-loop-record l = (l.end ≡ l.at + 288 * l.record-index) × (length l.text ≡ length l.fn.text)
    × (take l.end l.text ++ records_text (drop l.record-index l.records) ≡
    take l.at l.fn.text ++ records_text l.records)
