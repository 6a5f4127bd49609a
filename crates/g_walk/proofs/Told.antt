-- What an answer has of the walk that it meets.
use Rattle.std.proofs.Common.{◌≡◌, ℕ, ◌+◌, ◌*◌, ◌<◌, ◌^◌, false, List, Option, Result, Ok, Err}
use Rattle.std.proofs.Common.{IfOk, length, ap, sym, subst, arith}
use Rattle.bn_types.specs.declared.gpn.Gpn.{Gpn}
use Rattle.bn_model.specs.Walking.{Landing, WalkEnd, WalkFault, landing_of}
use Rattle.bn_model.specs.WalkLaws.{AllFree}
use Rattle.g_walk.specs.Answers.{landing, leaf_result}
use Rattle.g_walk.specs.declared.fault.LeafFault.{LeafFault}
use Rattle.g_walk.specs.declared.found.Leaf.{Leaf}

same-landing : (leaf : Leaf) (read : List Gpn) (end : WalkEnd)
    → leaf_result (Ok leaf) ≡ landing_of read (Ok end)
    → landing leaf ≡ record { ppn = end.ppn; flags = end.flags; bare = end.bare; tables = read }
same-landing leaf read end e = cc

-- the answer's tables are those that were read
tables-read : (leaf : Leaf) (read : List Gpn) (walk : Result WalkEnd WalkFault)
    → leaf_result (Ok leaf) ≡ landing_of read walk → leaf.tables.items ≡ read
tables-read leaf read (Ok end) e =
    ap (λ (landing : Landing). landing.tables) (same-landing leaf read end e)
tables-read leaf read (Err fault) e = absurd cc

pub told-steps : (answer : Result Leaf LeafFault) (read : List Gpn)
    (walk : Result WalkEnd WalkFault) (old new : ℕ) → leaf_result answer ≡ landing_of read walk
    → new ≡ old + 4 * length read → IfOk answer (λ leaf. new ≡ old + 4 * length leaf.tables.items)
told-steps (Ok leaf) read walk old new e steps =
    omega (arith, ap length (tables-read leaf read walk e))
told-steps (Err fault) read walk old new e steps = tt

pub told-free : (pages : List (Option (List ℕ))) (answer : Result Leaf LeafFault) (read : List Gpn)
    (walk : Result WalkEnd WalkFault) → leaf_result answer ≡ landing_of read walk
    → AllFree pages read → IfOk answer (λ leaf. AllFree pages leaf.tables.items)
told-free pages (Ok leaf) read walk e free =
    subst (AllFree pages) (sym (tables-read leaf read walk e)) free
told-free pages (Err fault) read walk e free = tt

pub told-ppn : (answer : Result Leaf LeafFault) (read : List Gpn) (walk : Result WalkEnd WalkFault)
    → leaf_result answer ≡ landing_of read walk → IfOk walk (λ end. end.ppn < 2 ^ 44)
    → IfOk answer (λ leaf. leaf.bare ≡ false → leaf.ppn < 2 ^ 44)
told-ppn (Ok leaf) read (Ok end) e fits = λ bare.
    omega (arith, ap (λ (landing : Landing). landing.ppn) (same-landing leaf read end e))
told-ppn (Ok leaf) read (Err fault) e fits = absurd cc
told-ppn (Err fault) read walk e fits = tt
