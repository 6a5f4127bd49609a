use Rattle.std.proofs.Common.{◌≡◌, ◌<◌, ◌==◌, ◌+◌, ℕ, false, sym, ◌∙◌, ap, Ok, Err, length, arith}
use Rattle.std.proofs.Common.{rules}
use Rattle.std.proofs.lemmas.Bool.Decides.{nat_tests}
use Rattle.bn_trace.proofs.ReadingLemmas.{read_placed}
use Rattle.bn_trace.proofs.RoundTrip.{line_found}
use Rattle.bn_trace.proofs.reading.read_line.Goals as goal

pub returns-in-Ok : goal.returns-in-Ok
returns-in-Ok c =
    let line = c.split_first.result.0.now in
    let rest = c.split_first.result.1.now in
    let test : (length rest == 0) ≡ false = sym c.is_empty.ensures ∙ c.if-is_empty.false in
    let some : 0 < length rest = grind (arith, nat_tests) in
    let read = read_placed c.args.text.now line rest (Ok c.in-Ok.read) c.split_first.ensures.pieces
    some (sym c.in-Ok.is ∙ c.read_pieces.ensures) in
    record {
      exact = sym read;
      spelled = line_found c.args.text.now c.in-Ok.read (length line + 1) read;
    }

pub returns-in-Err : goal.returns-in-Err
returns-in-Err c =
    let line = c.split_first.result.0.now in
    let rest = c.split_first.result.1.now in
    let test : (length rest == 0) ≡ false = sym c.is_empty.ensures ∙ c.if-is_empty.false in
    let some : 0 < length rest = grind (arith, nat_tests) in
    let read = read_placed c.args.text.now line rest (Err c.in-Err.left)
    c.split_first.ensures.pieces some (sym c.in-Err.is ∙ c.read_pieces.ensures) in
    record {
      exact = sym (read ∙ ap (λ (n : ℕ). Err (record { at = n })) (sym c.saturating_sub.ensures));
      spelled = search rules;
    }
