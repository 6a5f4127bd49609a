use Rattle.std.proofs.Common.{◌≡◌, drop, map}
use Rattle.clap.specs.Words.{app_of}
use Rattle.bn_front.specs.Commands.{with_options}
use Rattle.bn_front.specs.Items.{name_meant}
use Rattle.bn_front.proofs.command.with_options.Given as goal

-- the rest of the options makes of the command what all make of the first
abbrev pub invariant-loop-option : goal.invariant-loop-option
invariant-loop-option l =
    with_options (app_of l.command) (map name_meant (drop l.option-index l.options)) ≡
    with_options (app_of l.fn.command) (map name_meant l.options)
