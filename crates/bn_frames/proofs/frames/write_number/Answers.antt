use Rattle.std.proofs.Common.{◌≡◌, ◌%◌, ◌^◌, arith}
use Rattle.std.proofs.lemmas.Grind.{common_steps}
use Rattle.bn_types.specs.Numbers.{with_number}
use Rattle.bn_frames.proofs.frames.write_number.Goals as goal

-- a value of 8 bytes has no more than its low bytes
pub returns-in-B8 : goal.returns-in-B8
unfolding with_number
returns-in-B8 c =
    let whole : c.args.value % 2 ^ 64 ≡ c.args.value = omega arith in
    rw (c.in-B8.is, whole) (grind (arith, common_steps))
