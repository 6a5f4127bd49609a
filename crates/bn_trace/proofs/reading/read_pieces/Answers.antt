use Rattle.std.proofs.Common.{sym}
use Rattle.bn_types.specs.Splitting.{pieces_after}
use Rattle.bn_trace.proofs.ReadingLemmas.{no_head}
use Rattle.bn_trace.proofs.reading.read_pieces.Goals as goal

pub returns-in-None : goal.returns-in-None
returns-in-None c =
    sym (no_head c.args.line.now c.split_first.result.0.now
    (pieces_after 32 c.split_first.result.1.now) c.split_first.ensures.pieces
    (sym c.in-None.ensures))
