use Rattle.std.proofs.Common.{◌≡◌, ℕ, ◌++◌, ◌∙◌, List, OnOk, ap, subst, sym}
use Rattle.bn_model.specs.Generating.{kernel_calls}
use Rattle.bn_gen.proofs.PartLemmas.{five_pieces, kernel-listed}
use Rattle.bn_gen.proofs.kernel.put_kernel.Goals as goal

pub returns-clause-bytes : goal.returns-clause-bytes
returns-clause-bytes c =
    let count = rw c.addi.ensures.listed at c.in_ok-put.ensures in
    subst (λ (bytes : List ℕ). OnOk c.put_end.result (c.put_end.new.code.items ≡ bytes))
    (five_pieces _ _ _ _ _ _ _ _ _ _ c.in_ok-put_start.ensures c.in_ok-put_launches.ensures
    count c.in_ok-put_calls.ensures.bytes
    ∙ ap (λ (bytes : List ℕ). c.args.code.now.items ++ bytes)
    (sym (kernel-listed (kernel_calls 0 64 c.args.stream.now).value)))
    c.put_end.ensures
