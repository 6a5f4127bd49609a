use Rattle.std.proofs.Common.{◌≡◌, ◌+◌, ◌*◌, ◌++◌, length, take}
use Rattle.std.specs.Prelude.{flat_map}
use Rattle.bn_model.specs.Segments.{entry_bytes}
use Rattle.bn_segment.proofs.writing.put_entries.Given as goal

abbrev pub invariant-loop-entry : goal.invariant-loop-entry
invariant-loop-entry l = record {
  bytes : take l.at l.text ≡
      take l.initial.at l.initial.text ++ flat_map entry_bytes (take l.entry-index l.entries);
  end : l.at ≡ l.initial.at + 8 * l.entry-index;
  size : length l.text ≡ length l.initial.text;
}
