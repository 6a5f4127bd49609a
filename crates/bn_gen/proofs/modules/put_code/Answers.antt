use Rattle.std.proofs.Common.{◌≡◌, ℕ, ◌++◌, ◌∙◌, List, OnOk, ap, rules, subst, sym}
use Rattle.bn_gen.proofs.PartLemmas.{module_code-state, module_code-value, three_pieces}
use Rattle.bn_gen.proofs.modules.put_code.Goals as goal

pub returns-clause-bytes : goal.returns-clause-bytes
returns-clause-bytes c =
    let start = rw (c.auipc.ensures.listed, c.ld.ensures.listed) at c.in_ok-put.ensures in
    let end = rw (c.sd.ensures.listed, c.addi.ensures.listed) at c.put-2.ensures in
    subst (λ (bytes : List ℕ). OnOk c.put-2.result (c.put-2.new.bytes.items ≡ bytes))
    (three_pieces _ _ _ _ _ _ start c.in_ok-put_operations.ensures.bytes
    ∙ ap (λ (bytes : List ℕ). c.args.code.now.items ++ bytes)
    (sym (module_code-value c.args.stream.now)))
    end

pub returns-clause-state : goal.returns-clause-state
returns-clause-state c =
    rw (module_code-state c.args.stream.now) (search rules)
