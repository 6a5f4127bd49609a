use Rattle.std.proofs.Common.{◌≡◌, ◌++◌, ◌∙◌, List, ℕ, ap, subst}
use Rattle.bn_front.specs.Due.{bad_store}
use Rattle.bn_front.specs.Story.{Answers, digests_line}
use Rattle.bn_front.proofs.unopened.say_mismatch.Goals as goal

-- a piece more
more : (old new piece text : List ℕ) → new ≡ old ++ piece → old ≡ text → new ≡ text ++ piece
more old new piece text e is = e ∙ ap (λ (l : List ℕ). l ++ piece) is

pub returns-clause-answers : goal.returns-clause-answers
returns-clause-answers g c =
    let r = c.args.register.now in
    let f = c.args.first.now in
    let s = c.args.second.now in
    let whole : c.as_slice.result.now ≡ digests_line r f s = c.as_slice.ensures.value
    ∙ more _ _ _ _ c.append-4.ensures
    (more _ _ _ _ c.append_digest-3.ensures.text
    (more _ _ _ _ c.append-3.ensures
    (more _ _ _ _ c.append_digest-2.ensures.text
    (more _ _ _ _ c.append-2.ensures
    (more _ _ _ _ c.append_digest.ensures.text
    (more _ _ _ _ c.append.ensures c.new-line.ensures)))))) in (
      c.say.ensures.spoken,
      subst (λ (t : List ℕ). Answers c.say.result (bad_store t) (g.O.Sink.account c.args.out.now)
          (g.O.Sink.account c.say.new.out)) whole c.say.ensures.answers,
    )
