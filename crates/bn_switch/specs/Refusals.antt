-- What a call answers, as the decision that it comes to.
use Rattle.std.specs.Prelude.{ℕ, Option, Some, None, Result, Ok, Err}
use Rattle.bn_types.specs.declared.reg.Reg.{Reg}
use Rattle.bn_types.specs.declared.request.Request.TheVariants as request
use Rattle.bn_model.specs.Decision.{Decision, Call, Refuse}
use Rattle.bn_model.specs.Refusals.{no_module}
use Rattle.bn_switch.specs.declared.call_refused.CallRefused.{CallRefused}
use Rattle.bn_switch.specs.declared.call_refused.CallRefused.TheVariants as refused
use Rattle.bn_switch.specs.declared.context.Context.{Context}

-- a refusal's code is minus this
abbrev pub call_code : CallRefused → ℕ
call_code refused.NoModule = no_module
call_code refused.NotEntry = 2
call_code refused.ModeDiffers = 3
call_code refused.Busy = 4

-- what a call of a module at an entry comes to, by its refusal
abbrev pub decision_by : Option CallRefused → Reg → (id entry : ℕ) → Decision
decision_by None rd id entry = Call rd id entry
decision_by (Some refusal) rd id entry = Refuse rd request.Call (call_code refusal)

abbrev pub refusal_of : Result Context (CallRefused × Context) → Option CallRefused
refusal_of (Ok context) = None
refusal_of (Err refused) = Some refused.0
