-- A hart, and the module that it runs.
use Rattle.std.specs.Prelude.{◌≡◌, ◌≢◌, ℕ, Bool, true, false, List, slice_set}
use Rattle.bn_model.specs.State.{Hart, hart_in}
use Rattle.bn_model.specs.Stepping.{hart_by_mask}
use Rattle.bn_switch.specs.Contexts.{module_in}
use Rattle.bn_switch.specs.declared.context.Context.{Context}

-- whether a module of this number, 0 for the untrusted world, is one
abbrev pub IsInside : Bool → ℕ → Type 0
IsInside true current = current ≢ 0
IsInside false current = current ≡ 0

-- a hart that goes on in a context
abbrev pub hart_in_context : Hart → Context → Hart
hart_in_context hart context = record hart {
  regs = context.regs;
  pc = context.pc;
  mode = context.mode;
  current = module_in context.seat;
}

-- the harts after a software interrupt came to one of them, where the mask names it
abbrev pub raised : (mask h : ℕ) → List Hart → List Hart
raised mask h harts = slice_set harts h (hart_by_mask mask h (hart_in harts h))
