-- Which instructions are legal in a module alone, or in none.
use Rattle.std.specs.Prelude.{ℕ, find, Option, Some, None}
use Rattle.bn_types.specs.declared.act.Act.{Act}
use Rattle.bn_types.specs.declared.act.Act.TheVariants as act
use Rattle.bn_types.specs.declared.decl.Decl.{Decl}
use Rattle.bn_types.specs.declared.row.Row.{Row}
use Rattle.bn_types.specs.declared.secure.Secure.{Secure}
use Rattle.bn_types.specs.declared.secure.Secure.TheVariants as secure
use Rattle.bn_model.specs.Admission.{is_at}
use Rattle.bn_model.specs.Causes.{breakpoint}
use Rattle.bn_model.specs.Deciding.{decision_of_act, decision_of_csr, decision_of_ecall}
use Rattle.bn_model.specs.Decision.{Decision, Trap, Next, ReturnFromTrap}
use Rattle.bn_model.specs.Legality.{supervisor_only}
use Rattle.bn_model.specs.State.{Hart, State}

-- instructions of opcode SYSTEM are illegal in a module
abbrev pub IsSystem : Act → Type 0
IsSystem (act.Csr op number operand reads writes rd) = Unit {0}
IsSystem act.Ecall = Unit {0}
IsSystem act.Ebreak = Unit {0}
IsSystem act.Sret = Unit {0}
IsSystem act.Wfi = Unit {0}
IsSystem act.SfenceVma = Unit {0}
IsSystem asked = ⊥

-- what one comes to in the untrusted world
abbrev pub decision_outside : State → ℕ → Hart → Act → Decision
decision_outside s h hart (act.Csr op number operand reads writes rd) =
    decision_of_csr s h hart op number operand reads writes rd
decision_outside s h hart act.Ecall = decision_of_ecall s hart hart.mode
decision_outside s h hart act.Ebreak = Trap breakpoint 0
decision_outside s h hart act.Sret = supervisor_only hart.mode ReturnFromTrap
decision_outside s h hart act.Wfi = supervisor_only hart.mode Next
decision_outside s h hart act.SfenceVma = supervisor_only hart.mode Next
decision_outside s h hart asked = decision_of_act s h hart asked

-- what the kernel may ask for
abbrev pub IsForKernel : Secure → Type 0
IsForKernel (secure.Launch rd at) = Unit {0}
IsForKernel (secure.Evict rd id) = Unit {0}
IsForKernel other = ⊥

-- what a module alone may ask for
abbrev pub IsForModules : Secure → Type 0
IsForModules secure.Ret = Unit {0}
IsForModules (secure.Caller rd) = Unit {0}
IsForModules (secure.Offerer rd at) = Unit {0}
IsForModules (secure.Sget rd index) = Unit {0}
IsForModules (secure.Sset rd index value) = Unit {0}
IsForModules other = ⊥

-- what a row declares of a virtual page
abbrev pub decl_in_row : (vpn : ℕ) → Option Row → Option Decl
decl_in_row vpn None = None
decl_in_row vpn (Some row) = find (is_at vpn) row.judged.decls.items
