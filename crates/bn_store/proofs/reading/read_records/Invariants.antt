use Rattle.std.proofs.Common.{◌≡◌, ◌≤◌, drop, vec_len, vec_capacity}
use Rattle.bn_model.specs.StoredImages.{records_in}
use Rattle.bn_store.proofs.reading.read_records.Given as goal

-- so many records are read
abbrev pub invariant-loop-number : goal.invariant-loop-number
invariant-loop-number l =
    (l.records.items ≡ records_in l.number (drop 16 l.text)) × (64 ≤ vec_capacity l.records) ×
    (vec_len l.records ≡ l.number)
