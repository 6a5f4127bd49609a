-- Registers and saved frames.
use Rattle.std.specs.Prelude.{replicate}
use Rattle.bn_types.specs.declared.mode.Mode.TheVariants.{U}
use Rattle.bn_types.specs.declared.regs.Regs.{Regs}
use Rattle.bn_types.specs.declared.saved_frame.SavedFrame.{SavedFrame}

-- all registers 0
abbrev pub zero_registers : Regs
zero_registers = record { x = replicate 32 0 }

-- all zeros, in mode U
abbrev pub zero_frame : SavedFrame
zero_frame = record { regs = zero_registers; pc = 0; mode = U }
