-- What a turn of a hart comes to. It has all that was read of the state but the registers that come
-- back to the hart from a frame.
use Rattle.std.specs.Prelude.{ℕ, List}
use Rattle.bn_types.specs.declared.act.Act.{Act}
use Rattle.bn_types.specs.declared.cause.Cause.{Cause}
use Rattle.bn_types.specs.declared.fault.Fault.{Fault}
use Rattle.bn_types.specs.declared.judged.Judged.{Judged}
use Rattle.bn_types.specs.declared.kind.Kind.{Kind}
use Rattle.bn_types.specs.declared.mod_id.ModId.{ModId}
use Rattle.bn_types.specs.declared.record.Record.{Record}
use Rattle.bn_types.specs.declared.reg.Reg.{Reg}
use Rattle.bn_types.specs.declared.request.Request.{Request}
use Rattle.bn_types.specs.declared.width.Width.{Width}
use Rattle.bn_model.specs.declared.place.Place.{Place}
use Rattle.bn_model.specs.CsrFile.{CsrFile}

-- ---- what is asked of the hart in its turn

pub data Asked : Type 0 where
  -- it isn't started
  Nothing : Asked
  -- an interrupt is taken
  Interrupted : (cause : Cause) → Asked
  -- the fetch failed
  Unfetched : (fault : Fault) → Asked
  -- the fetch was denied where a stopped module goes on
  Resuming : (id : ModId) → Asked
  -- the word is no instruction
  Unknown : Asked
  -- the instruction asks for this
  Acting : (act : Act) → Asked

-- ---- what comes of it

pub data Decision : Type 0 where
  -- the hart isn't started and does nothing
  Rest : Decision
  -- it takes a trap, an interrupt or an exception, with this value for `stval`
  Trap : (cause : Cause) (value : ℕ) → Decision
  -- the rule of admission denies its access to a virtual address, and it takes the trap of that
  Deny : (kind : Kind) (va : ℕ) → Decision
  -- it goes on
  Next : Decision
  -- it sets rd and goes on
  Set : (rd : Reg) (value : ℕ) → Decision
  -- it sets rd to the link and goes to the target
  Jump : (target : ℕ) (rd : Reg) (link : ℕ) → Decision
  -- it stores the low bytes of the value at the place and goes on
  Store : (place : Place) (width : Width) (value : ℕ) → Decision
  -- it sets rd to what a CSR held, has these CSRs and goes on
  Csr : (rd : Reg) (old : ℕ) (csrs : CsrFile) → Decision
  -- it returns from a trap
  ReturnFromTrap : Decision
  -- it writes the byte to the console and goes on, with a0 0
  Put : (byte : ℕ) → Decision
  -- it answers a call to the hypervisor by this error in a0 and 0 in a1, and goes on
  Answer : (error : ℕ) → Decision
  -- it shuts the machine down
  ShutDown : Decision
  -- it sets its timer
  SetTimer : (timer : ℕ) → Decision
  -- it takes a key, and these go on waiting
  TakeKey : (key : ℕ) (rest : List ℕ) → Decision
  -- no key waits to be taken
  NoKey : Decision
  -- it starts a hart
  Start : (target pc opaque : ℕ) → Decision
  -- it sends a software interrupt to each hart of the mask
  Send : (harts : ℕ) → Decision
  -- a request is refused; the code is minus this
  Refuse : (rd : Reg) (request : Request) (code : ℕ) → Decision
  -- it launches a module
  Launch : (rd : Reg) (judged : Judged) → Decision
  -- it calls a module at an entry
  Call : (rd : Reg) (callee entry : ℕ) → Decision
  -- its module returns to a caller, which goes on at this pc
  Return : (caller : ModId) (pc : ℕ) → Decision
  -- it goes on with a stopped module
  Resume : (id : ModId) → Decision
  -- it evicts a module; so many rows go in all
  Evict : (rd : Reg) (id count : ℕ) → Decision
  -- it sets rd to what a module asked about modules, offers or its stored words
  Tell : (rd : Reg) (value : ℕ) → Decision
  -- its module sets this word of its identity, and these are the records then
  SetWord : (rd : Reg) (index : ℕ) (records : List Record) → Decision
