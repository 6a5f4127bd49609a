-- What a `Csrs` keeps, as the record of the manual's fields: one for one.
use Rattle.bn_model.specs.CsrFile.{CsrFile, HasCsrForms}
use Rattle.rv_csr.specs.declared.csrs.Csrs.TheInside.{Inside}

abbrev pub file_of : Inside → CsrFile
file_of c = record {
  sie = c.sie;
  spie = c.spie;
  spp = c.spp;
  sum = c.sum;
  mxr = c.mxr;
  ssie = c.ssie;
  stie = c.stie;
  seie = c.seie;
  stvec_base = c.stvec_base;
  stvec_vectored = c.stvec_vectored;
  sscratch = c.sscratch;
  sepc = c.sepc;
  scause = c.scause;
  stval = c.stval;
  ssip = c.ssip;
  satp = c.satp;
}

abbrev pub inside_of : CsrFile → Inside
inside_of c = record {
  sie = c.sie;
  spie = c.spie;
  spp = c.spp;
  sum = c.sum;
  mxr = c.mxr;
  ssie = c.ssie;
  stie = c.stie;
  seie = c.seie;
  stvec_base = c.stvec_base;
  stvec_vectored = c.stvec_vectored;
  sscratch = c.sscratch;
  sepc = c.sepc;
  scause = c.scause;
  stval = c.stval;
  ssip = c.ssip;
  satp = c.satp;
}

abbrev pub HasForms : Inside → Type 0
HasForms c = HasCsrForms (file_of c)
