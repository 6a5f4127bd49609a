-- What the definition by opcodes gives stands in the table.
use Rattle.std.proofs.Common.{◌≡◌, ℕ, arith}
use Rattle.std.specs.Prelude.{IfSome}
use Rattle.std.proofs.lemmas.Bool.Decides.{nat_tests}
use Rattle.bn_model.specs.Encoding.{Encodes}
use Rattle.bn_model.specs.Decoding.{insn_of, jalr, branch, load, store, op_imm, op_reg, op_imm_32}
use Rattle.bn_model.specs.Decoding.{op_reg_32, fence, system, environment, secure_of, secure_by}
use Rattle.bn_model.specs.Fields.{opcode, funct3}

jalr-listed : (w : ℕ) → opcode w ≡ 0b1100111 → IfSome (jalr w) (Encodes w)
unfolding jalr
jalr-listed w h = grind (arith, nat_tests)

branch-listed : (w : ℕ) → opcode w ≡ 0b1100011 → IfSome (branch w) (Encodes w)
unfolding branch
branch-listed w h = grind (arith, nat_tests)

load-listed : (w : ℕ) → opcode w ≡ 0b0000011 → IfSome (load w) (Encodes w)
unfolding load
load-listed w h = grind (arith, nat_tests)

store-listed : (w : ℕ) → opcode w ≡ 0b0100011 → IfSome (store w) (Encodes w)
unfolding store
store-listed w h = grind (arith, nat_tests)

op_imm-listed : (w : ℕ) → opcode w ≡ 0b0010011 → IfSome (op_imm w) (Encodes w)
unfolding op_imm
op_imm-listed w h = grind (arith, nat_tests)

op_reg-listed : (w : ℕ) → opcode w ≡ 0b0110011 → IfSome (op_reg w) (Encodes w)
unfolding op_reg
op_reg-listed w h = grind (arith, nat_tests)

op_imm_32-listed : (w : ℕ) → opcode w ≡ 0b0011011 → IfSome (op_imm_32 w) (Encodes w)
unfolding op_imm_32
op_imm_32-listed w h = grind (arith, nat_tests)

op_reg_32-listed : (w : ℕ) → opcode w ≡ 0b0111011 → IfSome (op_reg_32 w) (Encodes w)
unfolding op_reg_32
op_reg_32-listed w h = grind (arith, nat_tests)

fence-listed : (w : ℕ) → opcode w ≡ 0b0001111 → IfSome (fence w) (Encodes w)
unfolding fence
fence-listed w h = grind (arith, nat_tests)

environment-listed : (w : ℕ) → opcode w ≡ 0b1110011 → funct3 w ≡ 0
    → IfSome (environment w) (Encodes w)
unfolding environment
environment-listed w h f = grind (arith, nat_tests)

system-listed : (w : ℕ) → opcode w ≡ 0b1110011 → IfSome (system w) (Encodes w)
unfolding system
system-listed w h = grind (arith, nat_tests, environment-listed)

secure-listed : (w : ℕ) → opcode w ≡ 0b0001011 → IfSome (secure_by (secure_of w)) (Encodes w)
unfolding secure_of
secure-listed w h = grind (arith, nat_tests)

pub Encodes-insn_of : (w : ℕ) → IfSome (insn_of w) (Encodes w)
unfolding insn_of
Encodes-insn_of w = grind (
  arith,
  nat_tests,
  jalr-listed,
  branch-listed,
  load-listed,
  store-listed,
  op_imm-listed,
  op_reg-listed,
  op_imm_32-listed,
  op_reg_32-listed,
  fence-listed,
  system-listed,
  secure-listed,
)
