-- Evictions: what they answer, and what they leave of a table.
use Rattle.std.specs.Prelude.{◌≢◌, ℕ, List, [], ◌∷◌, Option, Some, None, Result, Ok, Err}
use Rattle.arrayvec.specs.ArrayVec.{ArrayVec}
use Rattle.bn_types.specs.declared.reg.Reg.{Reg}
use Rattle.bn_types.specs.declared.request.Request.TheVariants as request
use Rattle.bn_types.specs.declared.row.Row.{Row}
use Rattle.bn_model.specs.Decision.{Decision, Evict, Refuse}
use Rattle.bn_model.specs.Evicting.{rows_left}
use Rattle.bn_model.specs.Refusals.{no_module}
use Rattle.bn_table.specs.declared.evict_refused.EvictRefused.{EvictRefused}
use Rattle.bn_table.specs.declared.evict_refused.EvictRefused.TheVariants.{NoModule, Busy}

-- a refusal's code is minus this
abbrev pub evict_code : EvictRefused → ℕ
evict_code NoModule = no_module
evict_code Busy = 2

-- the decision of a turn that is told this refusal, or none
abbrev pub decision_if_refused : Reg → (id count : ℕ) → Option EvictRefused → Decision
decision_if_refused rd id count None = Evict rd id count
decision_if_refused rd id count (Some refusal) = Refuse rd request.Evict (evict_code refusal)

-- the decision of a turn that is answered this
abbrev pub decision_of_answer :
    Reg → (id count : ℕ) → Result (ArrayVec Row) EvictRefused → Decision
decision_of_answer rd id count (Ok gone) = Evict rd id count
decision_of_answer rd id count (Err refusal) = Refuse rd request.Evict (evict_code refusal)

-- the rows after an eviction that is answered this
abbrev pub rows_after : Result (ArrayVec Row) EvictRefused → List Row → List Row
rows_after (Ok gone) rows = rows_left gone.items rows
rows_after (Err refusal) rows = rows

-- ---- ids

abbrev pub Differ : ℕ → List Row → Type 0
Differ id [] = Unit {0}
Differ id (row ∷ rows) = (row.id.0 ≢ id) × Differ id rows

-- no two rows have one id
abbrev pub AreApart : List Row → Type 0
AreApart [] = Unit {0}
AreApart (row ∷ rows) = Differ row.id.0 rows × AreApart rows
