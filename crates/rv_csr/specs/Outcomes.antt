-- What a read or a write of a CSR answers, against its definition: Illegal exactly where that is
-- None.
use Rattle.std.specs.Prelude.{◌≡◌, ℕ, Option, Some, None, Result, Ok, Err}
use Rattle.rv_csr.specs.declared.illegal.Illegal.{Illegal}
use Rattle.bn_model.specs.CsrFile.{CsrDone, CsrFile}

abbrev pub ReadsCsr : Result ℕ Illegal → Option ℕ → Type 0
ReadsCsr (Ok value) read = read ≡ Some value
ReadsCsr (Err illegal) read = read ≡ None

-- an illegal write changes nothing
abbrev pub WritesCsr : Result Unit Illegal → CsrFile → CsrFile → Option CsrFile → Type 0
WritesCsr (Ok done) before after written = written ≡ Some after
WritesCsr (Err illegal) before after written = (written ≡ None) × (after ≡ before)

-- a CSR instruction that is illegal changes nothing
abbrev pub DoesCsr : Result ℕ Illegal → CsrFile → CsrFile → Option CsrDone → Type 0
DoesCsr (Ok value) before after done = done ≡ Some (record { value = value; csrs = after })
DoesCsr (Err illegal) before after done = (done ≡ None) × (after ≡ before)
