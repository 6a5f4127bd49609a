-- The exit codes of the program.
use Rattle.std.specs.Prelude.{ℕ}
use Rattle.bn_types.specs.declared.status.Status.{Status}
use Rattle.bn_types.specs.declared.status.Status.TheVariants.{Ended, Words, Limit, NoFile, Image}
use Rattle.bn_types.specs.declared.status.Status.TheVariants.{Script, Store, SinkFault, DeskFault}
use Rattle.bn_types.specs.declared.status.Status.TheVariants.{VaultFault, ChipFault, Memory}

-- this project's own table; 71 is `EX_OSERR` of sysexits.h
abbrev pub exit_code : Status → ℕ
exit_code Ended = 0
exit_code Words = 2
exit_code Limit = 3
exit_code NoFile = 4
exit_code Image = 5
exit_code Script = 6
exit_code Store = 7
exit_code SinkFault = 8
exit_code DeskFault = 9
exit_code VaultFault = 10
exit_code ChipFault = 11
exit_code Memory = 71
