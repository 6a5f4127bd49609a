-- What is legal in a module, and what in none.
use Rattle.std.proofs.Common.{◌≡◌, ◌≢◌, ℕ, zero, suc, refl, ap}
use Rattle.bn_types.specs.declared.act.Act.{Act}
use Rattle.bn_types.specs.declared.act.Act.TheVariants as act
use Rattle.bn_types.specs.declared.mode.Mode.{Mode}
use Rattle.bn_types.specs.declared.secure.Secure.{Secure}
use Rattle.bn_types.specs.declared.secure.Secure.TheVariants as secure
use Rattle.bn_model.specs.Deciding.{decision_of_act, decision_of_secure}
use Rattle.bn_model.specs.Decision.{Decision}
use Rattle.bn_model.specs.Legality.{illegal, inside_only, kernel_only, outside_only}
use Rattle.bn_model.specs.Legality.{supervisor_only}
use Rattle.bn_model.specs.State.{Hart, State}
use Rattle.bn_machine.specs.Acts.{IsForKernel, IsForModules, IsSystem, decision_outside}

inside-illegal : (current : ℕ) (d : Decision) → current ≢ 0 → outside_only current d ≡ illegal
inside-illegal zero d inside = absurd (inside refl)
inside-illegal (suc m) d inside = refl

outside-legal : (current : ℕ) (d : Decision) → current ≡ 0 → outside_only current d ≡ d
outside-legal current d is = ap (λ (n : ℕ). outside_only n d) is

pub system_inside : (s : State) (h : ℕ) (hart : Hart) (asked : Act) → IsSystem asked
    → hart.current.0 ≢ 0 → decision_of_act s h hart asked ≡ illegal
system_inside s h hart (act.Csr op number operand reads writes rd) is inside =
    inside-illegal hart.current.0 _ inside
system_inside s h hart act.Ecall is inside = inside-illegal hart.current.0 _ inside
system_inside s h hart act.Ebreak is inside = inside-illegal hart.current.0 _ inside
system_inside s h hart act.Sret is inside = inside-illegal hart.current.0 _ inside
system_inside s h hart act.Wfi is inside = inside-illegal hart.current.0 _ inside
system_inside s h hart act.SfenceVma is inside = inside-illegal hart.current.0 _ inside
system_inside s h hart asked is inside = absurd is

pub system_outside : (s : State) (h : ℕ) (hart : Hart) (asked : Act) → IsSystem asked
    → hart.current.0 ≡ 0 → decision_of_act s h hart asked ≡ decision_outside s h hart asked
system_outside s h hart (act.Csr op number operand reads writes rd) is out =
    outside-legal hart.current.0 _ out
system_outside s h hart act.Ecall is out = outside-legal hart.current.0 _ out
system_outside s h hart act.Ebreak is out = outside-legal hart.current.0 _ out
system_outside s h hart act.Sret is out = outside-legal hart.current.0 _ out
system_outside s h hart act.Wfi is out = outside-legal hart.current.0 _ out
system_outside s h hart act.SfenceVma is out = outside-legal hart.current.0 _ out
system_outside s h hart asked is out = absurd is

kernel-illegal : (current : ℕ) (mode : Mode) (d : Decision) → current ≢ 0
    → kernel_only current mode d ≡ illegal
kernel-illegal zero mode d inside = absurd (inside refl)
kernel-illegal (suc m) mode d inside = refl

pub kernel_inside : (s : State) (hart : Hart) (asked : Secure) → IsForKernel asked
    → hart.current.0 ≢ 0 → decision_of_secure s hart asked ≡ illegal
kernel_inside s hart (secure.Launch rd at) is inside =
    kernel-illegal hart.current.0 hart.mode _ inside
kernel_inside s hart (secure.Evict rd id) is inside =
    kernel-illegal hart.current.0 hart.mode _ inside
kernel_inside s hart asked is inside = absurd is

pub kernel_outside : (current : ℕ) (mode : Mode) (d : Decision) → current ≡ 0
    → kernel_only current mode d ≡ supervisor_only mode d
kernel_outside current mode d is = ap (λ (n : ℕ). kernel_only n mode d) is

pub legal_inside : (current : ℕ) (d : Decision) → current ≢ 0 → inside_only current d ≡ d
legal_inside zero d inside = absurd (inside refl)
legal_inside (suc m) d inside = refl

module-illegal : (current : ℕ) (d : Decision) → current ≡ 0 → inside_only current d ≡ illegal
module-illegal current d is = ap (λ (n : ℕ). inside_only n d) is

pub modules_outside : (s : State) (hart : Hart) (asked : Secure) → IsForModules asked
    → hart.current.0 ≡ 0 → decision_of_secure s hart asked ≡ illegal
modules_outside s hart secure.Ret is out = module-illegal hart.current.0 _ out
modules_outside s hart (secure.Caller rd) is out = module-illegal hart.current.0 _ out
modules_outside s hart (secure.Offerer rd at) is out = module-illegal hart.current.0 _ out
modules_outside s hart (secure.Sget rd index) is out = module-illegal hart.current.0 _ out
modules_outside s hart (secure.Sset rd index value) is out = module-illegal hart.current.0 _ out
modules_outside s hart asked is out = absurd is
