-- Which instructions may be executed where: in the untrusted world, module 0, or in a module, and
-- in which mode.
use Rattle.std.specs.Prelude.{ℕ, zero, suc}
use Rattle.bn_types.specs.declared.mode.Mode.{Mode}
use Rattle.bn_types.specs.declared.mode.Mode.TheVariants.{U, S}
use Rattle.bn_model.specs.Causes.{illegal_instruction}
use Rattle.bn_model.specs.Decision.{Decision, Trap}

-- an illegal instruction has 0 for `stval`
abbrev pub illegal : Decision
illegal = Trap illegal_instruction 0

-- SRET, WFI and SFENCE.VMA are illegal in mode U (Privileged ISA, "Supervisor Instructions")
abbrev pub supervisor_only : Mode → Decision → Decision
supervisor_only U decision = illegal
supervisor_only S decision = decision

-- instructions of opcode SYSTEM are illegal in a module
abbrev pub outside_only : (current : ℕ) → Decision → Decision
outside_only zero decision = decision
outside_only (suc m) decision = illegal

-- what a module alone may ask for
abbrev pub inside_only : (current : ℕ) → Decision → Decision
inside_only zero decision = illegal
inside_only (suc m) decision = decision

-- modules are launched and evicted by mode S of the untrusted world
abbrev pub kernel_only : (current : ℕ) → Mode → Decision → Decision
kernel_only zero mode decision = supervisor_only mode decision
kernel_only (suc m) mode decision = illegal
