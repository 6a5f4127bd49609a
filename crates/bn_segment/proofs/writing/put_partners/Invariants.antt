use Rattle.std.proofs.Common.{◌≡◌, ◌+◌, ◌*◌, ◌++◌, length, take}
use Rattle.std.specs.Prelude.{flat_map}
use Rattle.bn_model.specs.Segments.{partner_bytes}
use Rattle.bn_segment.proofs.writing.put_partners.Given as goal

abbrev pub invariant-loop-partner : goal.invariant-loop-partner
invariant-loop-partner l = record {
  bytes : take l.at l.text ≡
      take l.initial.at l.initial.text ++ flat_map partner_bytes (take l.partner-index l.partners);
  end : l.at ≡ l.initial.at + 32 * l.partner-index;
  size : length l.text ≡ length l.initial.text;
}
