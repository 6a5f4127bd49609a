-- The counts of an object of the outside: a count rises only in a call that answers the refusal
-- that names it, and never falls. A count is a 64-bit number; at the greatest nothing more is said
-- of it.
use Rattle.std.specs.Prelude.{◌≡◌, ◌↔◌, ℕ, ◌-◌, ◌^◌, ◌<◌, Result, Ok, Err}
use Rattle.bn_edge.specs.declared.area_fault.AreaFault.{AreaFault}
use Rattle.bn_edge.specs.declared.area_fault.AreaFault.TheVariants as area
use Rattle.bn_edge.specs.declared.desk_fault.DeskFault.{DeskFault}
use Rattle.bn_edge.specs.declared.desk_fault.DeskFault.TheVariants.{Missing, Failed}

-- the count can still rise
abbrev pub CanCount : ℕ → Type 0
CanCount count = count < 2 ^ 64 - 1

-- the count rose from old to new
abbrev pub Rose : ℕ → ℕ → Type 0
Rose old new = old < new

-- as long as it could, a count rose
abbrev pub Rises : ℕ → ℕ → Type 0
Rises old new = CanCount old → Rose old new

-- as long as it could rise, a count stayed
abbrev pub Stays : ℕ → ℕ → Type 0
Stays old new = CanCount old → new ≡ old

-- an answer comes exactly where the count rose, as long as it could
abbrev pub IsToldBy : Type 0 → ℕ → ℕ → Type 0
IsToldBy Answer old new = CanCount old → (Answer ↔ Rose old new)

-- a call of one refusal: the count rises exactly where it refuses
abbrev pub CountsRefusals : {A E : Type 0} → Result A E → ℕ → ℕ → Type 0
CountsRefusals (Ok answer) old new = Stays old new
CountsRefusals (Err refusal) old new = Rises old new

-- the misses rise exactly where the file is missing
abbrev pub CountsMisses : {A : Type 0} → Result A DeskFault → ℕ → ℕ → Type 0
CountsMisses (Err Missing) old new = Rises old new
CountsMisses answer old new = Stays old new

-- the faults rise exactly where the call failed
abbrev pub CountsFaults : {A : Type 0} → Result A DeskFault → ℕ → ℕ → Type 0
CountsFaults (Err Failed) old new = Rises old new
CountsFaults answer old new = Stays old new

-- the faults rise exactly where an area's read failed
abbrev pub CountsAreaFaults : {A : Type 0} → Result A AreaFault → ℕ → ℕ → Type 0
CountsAreaFaults (Err area.Failed) old new = Rises old new
CountsAreaFaults answer old new = Stays old new
