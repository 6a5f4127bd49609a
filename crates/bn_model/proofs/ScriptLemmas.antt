-- The events of a script fit the machine for which it was read.
use Rattle.std.proofs.Common.{◌≡◌, ℕ, zero, suc, ◌+◌, ◌-◌, ◌*◌, ◌%◌, ◌^◌, ◌<◌, ◌≤◌, ◌&&◌, Bool}
use Rattle.std.proofs.Common.{true}
use Rattle.std.proofs.Common.{false, nat_le, nat_lt, List, [], ◌∷◌, ◌++◌, length, map, Option, Some}
use Rattle.std.proofs.Common.{None}
use Rattle.std.proofs.Common.{Result, Ok, Err, refl, sym, ap, subst, ◌∙◌, arith, leb-true, ltb-true}
use Rattle.std.specs.Prelude.{codes, if◌then◌else◌}
use Rattle.std.specs.Str.{bytes_eq}
use Rattle.std.proofs.lemmas.Bool.{and_parts}
use Rattle.std.proofs.lemmas.Option.{none-some, same_Some}
use Rattle.std.proofs.lemmas.List.Elements.{All-append, All-cons, All-head, All-nil}
use Rattle.std.proofs.lemmas.List.Elements.{All-replicate, All-tail}
use Rattle.std.proofs.Math.Nat.{mod-lt}
use Rattle.std.specs.List.{All, flat_map, range_with_len}
use Rattle.bn_types.specs.Splitting.{split_by}
use Rattle.bn_types.specs.declared.event.Event.{Event}
use Rattle.bn_types.specs.declared.event.Event.TheVariants as event
use Rattle.bn_types.specs.declared.script_fault.ScriptFault.{ScriptFault}
use Rattle.bn_types.specs.declared.script_sort.ScriptSort.{ScriptSort}
use Rattle.bn_model.specs.declared.command.Command.{Command}
use Rattle.bn_model.specs.declared.command.Command.TheVariants.{Turn, Go, Key, Poke, Peek}
use Rattle.bn_model.specs.BlankingLaws.{AllFit}
use Rattle.bn_model.specs.Running.{Blind, state_before}
use Rattle.bn_model.specs.Scripts.{◌>>=◌, IsOrderly, Script, after_event, after_events, byte_in}
use Rattle.bn_model.specs.Scripts.{byte_of_digits, byte_spelled, command_of, commands_from}
use Rattle.bn_model.specs.Scripts.{commands_if, commands_of}
use Rattle.bn_model.specs.Scripts.{commands_with, counted, event_from, events_of, first_events}
use Rattle.bn_model.specs.Scripts.{go_of}
use Rattle.bn_model.specs.Scripts.{hex_digit, is_count, is_place, is_silent, key_of}
use Rattle.bn_model.specs.Scripts.{most_script_bytes}
use Rattle.bn_model.specs.Scripts.{next_event, number_in, one_of, ordered_by, ordered_if, peek_of}
use Rattle.bn_model.specs.Scripts.{poke_of, ranged, script_from, script_if, script_in, script_of}
use Rattle.bn_model.specs.Scripts.{spelled, three_of, turn_of, two_of}
use Rattle.bn_model.specs.State.{State}
use Rattle.bn_model.specs.Stepping.{FitsHarts, step}
use Rattle.bn_model.proofs.BeforeLemmas.{harts-before}
use Rattle.bn_model.proofs.SteppingLemmas.{harts_after}

-- ---- a script's events, one after the other

pub next-fits : (script : Script) → IsOrderly script → FitsHarts script.harts (next_event script)
next-fits script orderly = go script.events orderly.events where
  go : (events : List Event) → All (FitsHarts script.harts) events
      → FitsHarts script.harts (event_from events script.turn)
  go [] all = orderly.turn
  go (first ∷ rest) all = All-head (FitsHarts script.harts) first rest all

pub after-harts : (script : Script) → (after_event script).harts ≡ script.harts
after-harts script = go script.events where
  go : (events : List Event) → (script_from events script).harts ≡ script.harts
  go [] = refl
  go (first ∷ rest) = refl

pub after-orderly : (script : Script) → IsOrderly script → IsOrderly (after_event script)
after-orderly script orderly = go script.events orderly.events where
  go : (events : List Event) → All (FitsHarts script.harts) events
      → IsOrderly (script_from events script)
  go [] all = record {
    some = orderly.some;
    few = orderly.few;
    turn = mod-lt (script.turn + 1) (let some = orderly.some in omega arith);
    events = orderly.events;
  }
  go (first ∷ rest) all = record {
    some = orderly.some;
    few = orderly.few;
    turn = orderly.turn;
    events = All-tail (FitsHarts script.harts) first rest all;
  }

pub events-harts : (n : ℕ) (script : Script) → (after_events n script).harts ≡ script.harts
unfolding after_events
events-harts zero script = refl
events-harts (suc n) script = events-harts n (after_event script) ∙ after-harts script

pub after-more : (n : ℕ) (script : Script)
    → after_events (n + 1) script ≡ after_event (after_events n script)
unfolding after_events
after-more zero script = refl
after-more (suc n) script =
    let e : suc n + 1 ≡ suc (n + 1) = omega arith in
    ap (λ (count : ℕ). after_events count script) e ∙ after-more n (after_event script)

first-plus : (m n : ℕ) (script : Script)
    → first_events (m + n) script ≡ first_events m script ++ first_events n (after_events m script)
unfolding first_events after_events
first-plus zero n script =
    let e : zero + n ≡ n = omega arith in ap (λ (count : ℕ). first_events count script) e
first-plus (suc m) n script =
    let e : suc m + n ≡ suc (m + n) = omega arith in
    ap (λ (count : ℕ). first_events count script) e
    ∙ ap (λ (events : List Event). next_event script ∷ events) (first-plus m n (after_event script))

pub first-more : (n : ℕ) (script : Script)
    → first_events (n + 1) script ≡ first_events n script ++ next_event (after_events n script) ∷ []
unfolding first_events
first-more n script = first-plus n 1 script

pub first-split : (made limit : ℕ) (script : Script) → made < limit
    → first_events limit script ≡ first_events made script
    ++ next_event (after_events made script)
    ∷ first_events (limit - (made + 1)) (after_event (after_events made script))
unfolding first_events
first-split made limit script below =
    let split : limit ≡ made + suc (limit - (made + 1)) = omega arith in
    ap (λ (n : ℕ). first_events n script) split ∙ first-plus made (suc (limit - (made + 1))) script

-- they fit a state of so many harts, and those that it leaves
pub first-events-fit : (blind : Option Blind) (n : ℕ) (script : Script) (s : State)
    → IsOrderly script → length s.harts ≡ script.harts → AllFit blind s (first_events n script)
unfolding first_events
first-events-fit blind zero script s orderly same = tt
first-events-fit blind (suc n) script s orderly same =
    let before : State = state_before blind s in
    let event : Event = next_event script in
    let here : length before.harts ≡ script.harts = ap length (harts-before blind s) ∙ same in (
      subst (λ (harts : ℕ). FitsHarts harts event) (sym here) (next-fits script orderly),
      first-events-fit blind n (after_event script) (step before event)
          (after-orderly script orderly)
          (harts_after before event ∙ here ∙ sym (after-harts script)),
    )

-- ---- the events of commands

rounds-fit : (harts at count : ℕ) → 1 ≤ harts
    → All (FitsHarts harts) (map (λ i. event.Turn (i % harts)) (range_with_len at count))
rounds-fit harts at zero some = All-nil (FitsHarts harts)
rounds-fit harts at (suc count) some =
    All-cons (FitsHarts harts) (event.Turn (at % harts))
    (map (λ i. event.Turn (i % harts)) (range_with_len (at + 1) count))
    (mod-lt at (omega (arith, some))) (rounds-fit harts (at + 1) count some)

-- a command is for a hart of the machine, or a place in a page, or a byte
abbrev pub CommandFits : (harts : ℕ) → Command → Type 0
CommandFits harts (Turn hart count) = hart < harts
CommandFits harts (Go count) = 1 ≤ harts
CommandFits harts (Key byte) = byte < 2 ^ 8
CommandFits harts (Poke page offset byte) = offset < 4096
CommandFits harts (Peek page offset) = offset < 4096

one-fits : (harts : ℕ) (e : Event) → FitsHarts harts e → All (FitsHarts harts) (e ∷ [])
one-fits harts e fits = All-cons (FitsHarts harts) e [] fits (All-nil (FitsHarts harts))

events-fit : (harts : ℕ) (command : Command) → CommandFits harts command
    → All (FitsHarts harts) (events_of harts command)
unfolding events_of
events-fit harts (Turn hart count) fits =
    All-replicate (FitsHarts harts) count (event.Turn hart) fits
events-fit harts (Go count) fits = rounds-fit harts 0 count fits
events-fit harts (Key byte) fits = one-fits harts (event.Key byte) fits
events-fit harts (Poke page offset byte) fits = one-fits harts (event.Poke page offset byte) fits
events-fit harts (Peek page offset) fits = one-fits harts (event.Peek page offset) fits

all-events-fit : (harts : ℕ) (commands : List Command) → All (CommandFits harts) commands
    → All (FitsHarts harts) (flat_map (events_of harts) commands)
all-events-fit harts [] all = All-nil (FitsHarts harts)
all-events-fit harts (first ∷ commands) all =
    All-append (FitsHarts harts) (events_of harts first) (flat_map (events_of harts) commands)
    (events-fit harts first (All-head (CommandFits harts) first commands all))
    (all-events-fit harts commands (All-tail (CommandFits harts) first commands all))

-- the script of commands that fit
pub commands-orderly : (harts : ℕ) (commands : List Command) → 1 ≤ harts → harts ≤ 4
    → All (CommandFits harts) commands → IsOrderly (script_of harts commands)
commands-orderly harts commands some few all = record {
  some = some;
  few = few;
  turn = omega (arith, some);
  events = all-events-fit harts commands all;
}

pub no-commands-orderly : (harts : ℕ) → 1 ≤ harts → harts ≤ 4 → IsOrderly (script_of harts [])
no-commands-orderly harts some few =
    commands-orderly harts [] some few (All-nil (CommandFits harts))

-- ---- what lines order

-- what a line orders fits
OrderFits : (harts : ℕ) → Result Command ScriptSort → Type 0
OrderFits harts (Ok command) = CommandFits harts command
OrderFits harts (Err sort) = Unit {0}

-- a value that was read, or a fault before it
bound : {A : Type 0} (harts : ℕ) (read : Result A ScriptSort)
    (next : A → Result Command ScriptSort)
    → ((value : A) → read ≡ Ok value → OrderFits harts (next value))
    → OrderFits harts (read >>= next)
unfolding OrderFits
bound harts (Ok value) next fits = fits value refl
bound harts (Err sort) next fits = tt

in-range : (harts : ℕ) (test : Bool) (command : Command)
    → (test ≡ true → CommandFits harts command) → OrderFits harts (ranged test command)
unfolding OrderFits
in-range harts true command fits = fits refl
in-range harts false command fits = tt

turn-fits : (harts : ℕ) (fields : List (List ℕ)) → OrderFits harts (turn_of harts fields)
unfolding turn_of
turn-fits harts fields =
    bound harts (counted (two_of fields)) _
    (λ f is. bound harts (number_in f.0) _
    (λ h read. bound harts (number_in f.1) _
    (λ k more. in-range harts (nat_lt h harts && is_count k) (Turn h k)
    (λ e. ltb-true h harts (and_parts (nat_lt h harts) (is_count k) e).0))))

go-fits : (harts : ℕ) (fields : List (List ℕ)) → 1 ≤ harts → OrderFits harts (go_of fields)
unfolding go_of
go-fits harts fields some =
    bound harts (counted (one_of fields)) _
    (λ f is. bound harts (number_in f) _
    (λ k read. in-range harts (is_count k) (Go k) (λ e. some)))

place-fits : (harts page offset : ℕ) (command : Command)
    → (offset < 4096 → CommandFits harts command) → is_place page offset ≡ true
    → CommandFits harts command
place-fits harts page offset command fits e =
    fits (ltb-true offset 4096 (and_parts (nat_lt page (2 ^ 32)) (nat_lt offset 4096) e).1)

poke-fits : (harts : ℕ) (fields : List (List ℕ)) → OrderFits harts (poke_of fields)
unfolding poke_of
poke-fits harts fields =
    bound harts (counted (three_of fields)) _
    (λ f is. bound harts (number_in f.0) _
    (λ g read. bound harts (number_in f.1) _
    (λ o more. bound harts (byte_in f.2) _
    (λ b last. in-range harts (is_place g o) (Poke (record { 0 = g }) o b)
    (place-fits harts g o (Poke (record { 0 = g }) o b) (λ small. small))))))

peek-fits : (harts : ℕ) (fields : List (List ℕ)) → OrderFits harts (peek_of fields)
unfolding peek_of
peek-fits harts fields =
    bound harts (counted (two_of fields)) _
    (λ f is. bound harts (number_in f.0) _
    (λ g read. bound harts (number_in f.1) _
    (λ o more. in-range harts (is_place g o) (Peek (record { 0 = g }) o)
    (place-fits harts g o (Peek (record { 0 = g }) o) (λ small. small)))))

-- two digits make a byte

DigitFits : Option ℕ → Type 0
DigitFits None = Unit {0}
DigitFits (Some value) = value < 16

digit-fits : (digit : ℕ) → DigitFits (hex_digit digit)
unfolding DigitFits
digit-fits digit =
    by_decimal (nat_le 48 digit && nat_le digit 57) refl
  where
    by_letter : (b : Bool) → (nat_le 97 digit && nat_le digit 102) ≡ b
        → DigitFits (if b then Some (digit - 87) else None)
    by_letter true e =
        let parts = and_parts (nat_le 97 digit) (nat_le digit 102) e in
        let least = leb-true 97 digit parts.0 in
        let most = leb-true digit 102 parts.1 in
        omega (arith, least, most)
    by_letter false e = tt

    by_decimal : (b : Bool) → (nat_le 48 digit && nat_le digit 57) ≡ b
        → DigitFits (if b then Some (digit - 48)
        else if nat_le 97 digit && nat_le digit 102 then Some (digit - 87) else None)
    by_decimal true e =
        let parts = and_parts (nat_le 48 digit) (nat_le digit 57) e in
        let least = leb-true 48 digit parts.0 in
        let most = leb-true digit 57 parts.1 in
        omega (arith, least, most)
    by_decimal false e = by_letter (nat_le 97 digit && nat_le digit 102) refl

digits-fit : (high low : Option ℕ) (byte : ℕ) → DigitFits high → DigitFits low
    → byte_of_digits high low ≡ Some byte → byte < 2 ^ 8
unfolding DigitFits
digits-fit None low byte h l e = absurd (none-some byte e)
digits-fit (Some high) None byte h l e = absurd (none-some byte e)
digits-fit (Some high) (Some low) byte h l e =
    let same = same_Some (16 * high + low) byte e in omega (arith, same, h, l)

spelled-fits : (field : List ℕ) (byte : ℕ) → byte_spelled field ≡ Some byte → byte < 2 ^ 8
spelled-fits [] byte e = absurd (none-some byte e)
spelled-fits (high ∷ []) byte e = absurd (none-some byte e)
spelled-fits (high ∷ low ∷ []) byte e =
    digits-fit (hex_digit high) (hex_digit low) byte (digit-fits high) (digit-fits low) e
spelled-fits (high ∷ low ∷ more ∷ rest) byte e = absurd (none-some byte e)

byte-fits : (field : List ℕ) (byte : ℕ) → byte_in field ≡ Ok byte → byte < 2 ^ 8
unfolding byte_in
byte-fits field byte e = by_spelling (byte_spelled field) refl e
  where
    by_spelling : (said : Option ℕ) → byte_spelled field ≡ said → spelled said ≡ Ok byte
        → byte < 2 ^ 8
    by_spelling None is read = absurd cc
    by_spelling (Some value) is read =
        let same : value ≡ byte = cc in
        spelled-fits field byte (is ∙ ap (λ (n : ℕ). Some n) same)

key-fits : (harts : ℕ) (fields : List (List ℕ)) → OrderFits harts (key_of fields)
unfolding key_of OrderFits
key-fits harts fields =
    bound harts (counted (one_of fields)) _
    (λ f is. bound harts (byte_in f) _ (λ b read. byte-fits f b read))

if-fits : (harts : ℕ) (test : Bool) (one other : Result Command ScriptSort)
    → OrderFits harts one → OrderFits harts other
    → OrderFits harts (if test then one else other)
if-fits harts true one other fits rest = fits
if-fits harts false one other fits rest = rest

command-fits : (harts : ℕ) (fields : List (List ℕ)) → 1 ≤ harts
    → OrderFits harts (command_of harts fields)
unfolding OrderFits
command-fits harts [] some = tt
command-fits harts (word ∷ fields) some =
    if-fits harts (bytes_eq word (codes "turn")) _ _ (turn-fits harts fields)
    (if-fits harts (bytes_eq word (codes "go")) _ _ (go-fits harts fields some)
    (if-fits harts (bytes_eq word (codes "key")) _ _ (key-fits harts fields)
    (if-fits harts (bytes_eq word (codes "poke")) _ _ (poke-fits harts fields)
    (if-fits harts (bytes_eq word (codes "peek")) _ _ (peek-fits harts fields) tt))))

-- ---- whole texts

-- the commands of a text fit
AllOrdersFit : {E : Type 0} (harts : ℕ) → Result (List Command) E → Type 0
AllOrdersFit harts (Ok commands) = All (CommandFits harts) commands
AllOrdersFit harts (Err fault) = Unit {0}

line-fits : (harts : ℕ) (line : List ℕ) → 1 ≤ harts → AllOrdersFit harts (ordered_by harts line)
unfolding AllOrdersFit OrderFits ordered_by
line-fits harts line some =
    by_kind (is_silent line) (command_of harts (split_by 32 line))
    (command-fits harts (split_by 32 line) some)
  where
    by_kind : (silent : Bool) (command : Result Command ScriptSort) → OrderFits harts command
        → AllOrdersFit harts (ordered_if silent command)
    by_kind true command fits = All-nil (CommandFits harts)
    by_kind false (Ok command) fits =
        All-cons (CommandFits harts) command [] fits (All-nil (CommandFits harts))
    by_kind false (Err fault) fits = tt

lines-fit : (harts number : ℕ) (lines : List (List ℕ)) → 1 ≤ harts
    → AllOrdersFit harts (commands_from harts number lines)
unfolding AllOrdersFit commands_from
lines-fit harts number [] some = All-nil (CommandFits harts)
lines-fit harts number (line ∷ lines) some =
    by_line (ordered_by harts line) (commands_from harts (number + 1) lines)
    (line-fits harts line some) (lines-fit harts (number + 1) lines some)
  where
    by_line : (said : Result (List Command) ScriptSort) (rest : Result (List Command) ScriptFault)
        → AllOrdersFit harts said → AllOrdersFit harts rest
        → AllOrdersFit harts (commands_with number said rest)
    by_line (Ok commands) (Ok more) fits last =
        All-append (CommandFits harts) commands more fits last
    by_line (Ok commands) (Err fault) fits last = tt
    by_line (Err sort) rest fits last = tt

text-fits : (harts : ℕ) (text : List ℕ) → 1 ≤ harts → AllOrdersFit harts (commands_of harts text)
unfolding AllOrdersFit commands_of
text-fits harts text some = by_length (nat_lt most_script_bytes (length text))
  where
    by_length : (long : Bool) → AllOrdersFit harts (commands_if long harts text)
    by_length true = tt
    by_length false = lines-fit harts 1 (split_by 10 text) some

-- the script of commands that a text orders
pub read-orderly : (harts : ℕ) (text : List ℕ) (commands : List Command) → 1 ≤ harts → harts ≤ 4
    → commands_of harts text ≡ Ok commands → IsOrderly (script_of harts commands)
unfolding AllOrdersFit
read-orderly harts text commands some few e =
    commands-orderly harts commands some few
    (subst (AllOrdersFit harts) e (text-fits harts text some))

-- the script of a text
pub script-orderly : (harts : ℕ) (text : List ℕ) (script : Script) → 1 ≤ harts → harts ≤ 4
    → script_in harts text ≡ Ok script → IsOrderly script
unfolding script_in
script-orderly harts text script some few e = by_commands (commands_of harts text) refl e
  where
    by_commands : (read : Result (List Command) ScriptFault) → commands_of harts text ≡ read
        → script_if harts read ≡ Ok script → IsOrderly script
    by_commands (Ok commands) is said =
        let same : script_of harts commands ≡ script = cc in
        subst IsOrderly same (read-orderly harts text commands some few is)
    by_commands (Err fault) is said = absurd cc
