use Rattle.bn_trace.proofs.RoundTrip.{line_again}
use Rattle.bn_trace.proofs.laws.spellings_are_read.Goals as goal

pub returns : goal.returns
returns c = line_again
