-- Which translations a hart holds after its turn.
use Rattle.std.specs.Prelude.{◌≡◌, ℕ, true, Result, OnOk}
use Rattle.bn_types.specs.declared.act.Act.{Act}
use Rattle.bn_types.specs.declared.act.Act.TheVariants as act
use Rattle.bn_types.specs.declared.event.Event.{Event}
use Rattle.bn_types.specs.declared.event.Event.TheVariants.{Turn}
use Rattle.bn_types.specs.declared.fault.Fault.{Fault}
use Rattle.bn_types.specs.declared.kind.Kind.TheVariants.{Load}
use Rattle.bn_model.specs.declared.place.Place.{Place}
use Rattle.bn_model.specs.Accessing.{access}
use Rattle.bn_model.specs.Deciding.{asked_of}
use Rattle.bn_model.specs.Decision.{Asked, Acting, Unknown}
use Rattle.bn_model.specs.State.{State, asker, hart_at, memory}
use Rattle.bn_unit.specs.Holding.{Cache, is_held}

-- a translation of the address is held for hart h, with the module and satp that it has in this
-- state
abbrev pub HoldsKey : State → (h va : ℕ) → Cache → Type 0
HoldsKey s h va m = is_held m (asker h (hart_at s h)) va ≡ true

-- a load that succeeds leaves that of its address
abbrev pub KeepsLoad : State → (h va : ℕ) → Result Place Fault → Cache → Type 0
KeepsLoad s h va reached m = OnOk reached (HoldsKey s h va m)

-- an instruction that makes no access but its fetch leaves that of its pc; nothing is said of
-- stores and secure instructions, whose drops may take it
abbrev pub KeepsAct : State → (h : ℕ) → Act → Cache → Type 0
KeepsAct s h (act.LoadAt va width signed rd) m =
    KeepsLoad s h va (access (memory s) (asker h (hart_at s h)) Load va width) m
KeepsAct s h (act.StoreAt va width value) m = Unit {0}
KeepsAct s h (act.Bastion secure) m = Unit {0}
KeepsAct s h asked m = HoldsKey s h (hart_at s h).pc m

-- so does a word that is no instruction; without a fetch nothing is said
abbrev pub KeepsAsked : State → (h : ℕ) → Asked → Cache → Type 0
KeepsAsked s h (Acting asked) m = KeepsAct s h asked m
KeepsAsked s h Unknown m = HoldsKey s h (hart_at s h).pc m
KeepsAsked s h asked m = Unit {0}

unfoldable pub KeepsTurn : State → (h : ℕ) → Cache → Type 0
KeepsTurn s h m = KeepsAsked s h (asked_of s h (hart_at s h)) m

abbrev pub KeepsEvent : State → Event → Cache → Type 0
KeepsEvent s (Turn h) m = KeepsTurn s h m
KeepsEvent s event m = Unit {0}
