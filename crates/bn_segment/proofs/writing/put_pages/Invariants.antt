use Rattle.std.proofs.Common.{◌≡◌, ◌+◌, ◌*◌, ◌++◌, length, take}
use Rattle.std.specs.Prelude.{flat_map}
use Rattle.bn_model.specs.Segments.{page_bytes}
use Rattle.bn_segment.proofs.writing.put_pages.Given as goal

abbrev pub invariant-loop-page : goal.invariant-loop-page
invariant-loop-page l = record {
  bytes : take l.at l.text ≡
      take l.initial.at l.initial.text ++ flat_map page_bytes (take l.page-index l.pages);
  end : l.at ≡ l.initial.at + 16 * l.page-index;
  size : length l.text ≡ length l.initial.text;
}
