-- Lines read one by one.
use Rattle.std.proofs.Common.{◌≡◌, ◌==◌, true, ℕ, zero, suc, ◌+◌, ◌≤◌, ◌<◌, List, [], ◌∷◌, ◌++◌}
use Rattle.std.proofs.Common.{append_assoc, append-nil, length, length-append, take, ◌-◌, drop}
use Rattle.std.proofs.Common.{subst, Option, Some, None, Result, Ok, Err, refl, sym, ◌∙◌, ap, arith}
use Rattle.std.proofs.lemmas.Bool.Decides.{nat_tests}
use Rattle.std.specs.Prelude.{IfSome, slice_get}
use Rattle.bn_types.specs.Splitting.{pieces_after, split_by}
use Rattle.bn_types.specs.declared.script_fault.ScriptFault.{ScriptFault}
use Rattle.bn_types.specs.declared.script_sort.ScriptSort.{ScriptSort}
use Rattle.bn_model.specs.declared.command.Command.{Command}
use Rattle.bn_model.specs.Scripts.{commands_from, commands_with, joined, ordered_by, script_if}
use Rattle.bn_script.specs.Drawing.{OrdersEvents, count_at}
use Rattle.bn_script.specs.Lines.{commands_in, count_of, refuses, refuses_line, with_ordered}
use Rattle.bn_script.specs.declared.script_error.ScriptError.{ScriptError}
use Rattle.bn_script.specs.declared.script_error.ScriptError.TheVariants.{Fault, Memory}

joined_twice : (front more : List Command) (rest : Result (List Command) ScriptFault) →
    joined front (joined more rest) ≡ joined (front ++ more) rest
joined_twice front more (Ok last) = ap Ok (sym (append_assoc front more last))
joined_twice front more (Err fault) = refl

first_of : (harts number : ℕ) (rest line more : List ℕ)
    → split_by 10 rest ≡ line ∷ pieces_after 10 more →
    commands_from harts number (split_by 10 rest)
    ≡ commands_with number (ordered_by harts line)
    (commands_from harts (number + 1) (pieces_after 10 more))
unfolding commands_from
first_of harts number rest line more split = rw split refl

-- a good line before more of them
pub line_read : (harts number : ℕ) (front : List Command) (said : Option Command)
    (rest line more : List ℕ) →
    split_by 10 rest ≡ line ∷ pieces_after 10 more → ordered_by harts line ≡ Ok (commands_in said) →
    joined front (commands_from harts number (split_by 10 rest))
    ≡ joined (front ++ commands_in said) (commands_from harts (number + 1) (pieces_after 10 more))
line_read harts number front said rest line more split good =
    rw (first_of harts number rest line more split, good)
    (joined_twice front (commands_in said)
    (commands_from harts (number + 1) (pieces_after 10 more)))

-- a bad line
pub line_refused : (harts number : ℕ) (front : List Command) (sort : ScriptSort)
    (rest line more : List ℕ) →
    split_by 10 rest ≡ line ∷ pieces_after 10 more → ordered_by harts line ≡ Err sort →
    joined front (commands_from harts number (split_by 10 rest)) ≡
    Err (record { line = number; sort = sort })
line_refused harts number front sort rest line more split bad =
    rw (first_of harts number rest line more split, bad) refl

-- past the last line
pub lines_over : (harts number : ℕ) (front : List Command)
    → joined front (commands_from harts number []) ≡ Ok front
unfolding commands_from
lines_over harts number front = ap Ok (append-nil front)

-- ---- each command orders an event

at_end : (harts : ℕ) (command : Command) (i : ℕ) → 1 ≤ harts → 1 ≤ count_of command
    → 1 ≤ count_at harts (slice_get (command ∷ []) i)
at_end harts command zero some one = one
at_end harts command (suc i) some one = some

pub orders_more : (harts : ℕ) (commands : List Command) (command : Command) → 1 ≤ harts
    → OrdersEvents harts commands → 1 ≤ count_of command →
    OrdersEvents harts (commands ++ (command ∷ []))
orders_more harts [] command some before one i = at_end harts command i some one
orders_more harts (first ∷ commands) command some before one zero = before 0
orders_more harts (first ∷ commands) command some before one (suc i) =
    orders_more harts commands command some (λ j. before (suc j)) one i

-- ---- refusals

pub refuses_script : (harts : ℕ) (read : Result (List Command) ScriptFault) (error : ScriptError)
    → refuses read error → refuses (script_if harts read) error
refuses_script harts read (Fault fault) h = rw h refl
refuses_script harts read Memory h = tt

pub orders_said : (harts : ℕ) (commands : List Command) (said : Option Command) → 1 ≤ harts
    → OrdersEvents harts commands →
    IfSome said (λ command. 1 ≤ count_of command)
    → OrdersEvents harts (commands ++ commands_in said)
orders_said harts commands None some before one =
    subst (OrdersEvents harts) (sym (append-nil commands)) before
orders_said harts commands (Some command) some before one =
    orders_more harts commands command some before one

pub joined_none : (rest : Result (List Command) ScriptFault) → joined [] rest ≡ rest
joined_none (Ok commands) = refl
joined_none (Err fault) = refl

-- the text after a line feed
pub pieces_from : (more : List ℕ) → 0 < length more
    → pieces_after 10 more ≡ split_by 10 (drop 1 more)
pieces_from [] some = grind arith
pieces_from (first ∷ rest) some = refl

-- ---- one line of the loop

abbrev refused_sort : ScriptSort → Result (List Command) ScriptSort
refused_sort sort = Err sort

pub line_added : (harts number : ℕ) (front new : List Command) (rest line more : List ℕ) →
    split_by 10 rest ≡ line ∷ pieces_after 10 more
    → with_ordered front (ordered_by harts line) ≡ Ok new →
    joined front (commands_from harts number (split_by 10 rest)) ≡
    joined new (commands_from harts (number + 1) (pieces_after 10 more))
line_added harts number front new rest line more split h =
    ap (joined front) (first_of harts number rest line more split) ∙ go (ordered_by harts line) h
  where
    no_line : (sort : ScriptSort) → refused_sort sort ≡ Ok new → ⊥
    no_line sort e = grind arith

    go : (said : Result (List Command) ScriptSort) → with_ordered front said ≡ Ok new →
        joined front (commands_with number said
        (commands_from harts (number + 1) (pieces_after 10 more)))
        ≡ joined new (commands_from harts (number + 1) (pieces_after 10 more))
    go (Ok commands) e =
        let is : front ++ commands ≡ new = grind arith in
        joined_twice front commands (commands_from harts (number + 1) (pieces_after 10 more))
        ∙ ap (λ (cs : List Command).
        joined cs (commands_from harts (number + 1) (pieces_after 10 more))) is
    go (Err sort) e = absurd (no_line sort e)

pub text_refused : (harts number : ℕ) (front : List Command) (error : ScriptError)
    (text : Result (List Command) ScriptFault) (rest line more : List ℕ) →
    text ≡ joined front (commands_from harts number (split_by 10 rest)) →
    split_by 10 rest ≡ line ∷ pieces_after 10 more
    → refuses_line number (ordered_by harts line) error → refuses text error
text_refused harts number front Memory text rest line more whole split h = tt
text_refused harts number front (Fault fault) text rest line more whole split h =
    whole ∙ line_refused harts number front fault.sort rest line more split h.0
    ∙ ap (λ (n : ℕ). Err (record { line = n; sort = fault.sort })) (sym h.1)

pub orders_added : (harts : ℕ) (commands new : List Command) (said : Option Command) → 1 ≤ harts
    → new ≡ commands ++ commands_in said →
    IfSome said (λ command. 1 ≤ count_of command) → OrdersEvents harts commands
    → OrdersEvents harts new
orders_added harts commands new said some e one before =
    subst (OrdersEvents harts) (sym e) (orders_said harts commands said some before one)

-- ---- the text after a line feed, as a slice

take_whole : (text : List ℕ) → take (length text) text ≡ text
take_whole [] = refl
take_whole (byte ∷ text) = ap (λ (x : List ℕ). byte ∷ x) (take_whole text)

pub rest_is : (more : List ℕ) → 0 < length more → take (length more - 1) (drop 1 more) ≡ drop 1 more
rest_is [] some = grind arith
rest_is (first ∷ rest) some =
    let e : suc (length rest) - 1 ≡ length rest = omega arith in rw e (take_whole rest)

pub few_left : (number most : ℕ) (rest line more : List ℕ) → rest ≡ line ++ more → 0 < length more
    → number + length rest ≤ most →
    number + 1 + length (drop 1 more) ≤ most
few_left number most rest line [] whole some few = grind arith
few_left number most rest line (first ∷ left) whole some few =
    let long = ap length whole ∙ length-append line (first ∷ left) in
    omega (arith, long, few)

pub no_pieces : (more : List ℕ) → (length more == 0) ≡ true → pieces_after 10 more ≡ []
no_pieces [] none = refl
no_pieces (first ∷ rest) none =
    let never : suc (length rest) ≡ 0 = grind (arith, nat_tests) in grind arith
