use Rattle.bn_gen.proofs.kernel.put_start.Goals as goal

pub returns : goal.returns
returns c =
    rw (
      c.auipc.ensures.listed,
      c.csrrw.ensures.listed,
      c.auipc-2.ensures.listed,
      c.addi.ensures.listed,
      c.csrrw-2.ensures.listed,
      c.addi-2.ensures.listed,
      c.csrrw-3.ensures.listed,
      c.csrrs.ensures.listed,
      c.addi-3.ensures.listed,
      c.addi-4.ensures.listed,
      c.csrrsi.ensures.listed,
    ) at c.put.ensures
