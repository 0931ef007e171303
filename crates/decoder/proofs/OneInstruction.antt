-- A word has one instruction.
use Rattle.std.proofs.Common.{◌≡◌, ◌∙◌, ℕ, Option, Some, None, refl, sym, ap}
use Rattle.decoder.specs.Decoding.{decoded}
use Rattle.decoder.specs.Encoding.{Encodes}
use Rattle.decoder.specs.declared.instr.Instr.{Instr}
use Rattle.decoder.specs.declared.instr.Instr.TheVariants.{Lui, Auipc, Jal, Jalr, Beq, Bne, Blt, Bge, Bltu, Bgeu, Lb, Lh, Lw, Lbu, Lhu, Sb, Sh, Sw, Addi, Slti, Sltiu, Xori, Ori, Andi, Slli, Srli, Srai, Add, Sub, Sll, Slt, Sltu, Xor, Srl, Sra, Or, And, Mul, Mulh, Mulhsu, Mulhu, Div, Divu, Rem, Remu, Fence, Ecall, Ebreak}

-- the table has the instruction at its word
decoded_as : (w : ℕ) (i : Instr) → Encodes w i → decoded w ≡ Some i
unfolding Encodes decoded
decoded_as w (Lui rd immediate) is = rw (is.0, is.1, is.2) refl
decoded_as w (Auipc rd immediate) is = rw (is.0, is.1, is.2) refl
decoded_as w (Jal rd offset) is = rw (is.0, is.1, is.2) refl
decoded_as w (Jalr rd rs1 offset) is = rw (is.0, is.1, is.2, is.3, is.4) refl
decoded_as w (Beq rs1 rs2 offset) is = rw (is.0, is.1, is.2, is.3, is.4) refl
decoded_as w (Bne rs1 rs2 offset) is = rw (is.0, is.1, is.2, is.3, is.4) refl
decoded_as w (Blt rs1 rs2 offset) is = rw (is.0, is.1, is.2, is.3, is.4) refl
decoded_as w (Bge rs1 rs2 offset) is = rw (is.0, is.1, is.2, is.3, is.4) refl
decoded_as w (Bltu rs1 rs2 offset) is = rw (is.0, is.1, is.2, is.3, is.4) refl
decoded_as w (Bgeu rs1 rs2 offset) is = rw (is.0, is.1, is.2, is.3, is.4) refl
decoded_as w (Lb rd rs1 offset) is = rw (is.0, is.1, is.2, is.3, is.4) refl
decoded_as w (Lh rd rs1 offset) is = rw (is.0, is.1, is.2, is.3, is.4) refl
decoded_as w (Lw rd rs1 offset) is = rw (is.0, is.1, is.2, is.3, is.4) refl
decoded_as w (Lbu rd rs1 offset) is = rw (is.0, is.1, is.2, is.3, is.4) refl
decoded_as w (Lhu rd rs1 offset) is = rw (is.0, is.1, is.2, is.3, is.4) refl
decoded_as w (Sb rs1 rs2 offset) is = rw (is.0, is.1, is.2, is.3, is.4) refl
decoded_as w (Sh rs1 rs2 offset) is = rw (is.0, is.1, is.2, is.3, is.4) refl
decoded_as w (Sw rs1 rs2 offset) is = rw (is.0, is.1, is.2, is.3, is.4) refl
decoded_as w (Addi rd rs1 immediate) is = rw (is.0, is.1, is.2, is.3, is.4) refl
decoded_as w (Slti rd rs1 immediate) is = rw (is.0, is.1, is.2, is.3, is.4) refl
decoded_as w (Sltiu rd rs1 immediate) is = rw (is.0, is.1, is.2, is.3, is.4) refl
decoded_as w (Xori rd rs1 immediate) is = rw (is.0, is.1, is.2, is.3, is.4) refl
decoded_as w (Ori rd rs1 immediate) is = rw (is.0, is.1, is.2, is.3, is.4) refl
decoded_as w (Andi rd rs1 immediate) is = rw (is.0, is.1, is.2, is.3, is.4) refl
decoded_as w (Slli rd rs1 amount) is = rw (is.0, is.1, is.2, is.3, is.4, is.5) refl
decoded_as w (Srli rd rs1 amount) is = rw (is.0, is.1, is.2, is.3, is.4, is.5) refl
decoded_as w (Srai rd rs1 amount) is = rw (is.0, is.1, is.2, is.3, is.4, is.5) refl
decoded_as w (Add rd rs1 rs2) is = rw (is.0, is.1, is.2, is.3, is.4, is.5) refl
decoded_as w (Sub rd rs1 rs2) is = rw (is.0, is.1, is.2, is.3, is.4, is.5) refl
decoded_as w (Sll rd rs1 rs2) is = rw (is.0, is.1, is.2, is.3, is.4, is.5) refl
decoded_as w (Slt rd rs1 rs2) is = rw (is.0, is.1, is.2, is.3, is.4, is.5) refl
decoded_as w (Sltu rd rs1 rs2) is = rw (is.0, is.1, is.2, is.3, is.4, is.5) refl
decoded_as w (Xor rd rs1 rs2) is = rw (is.0, is.1, is.2, is.3, is.4, is.5) refl
decoded_as w (Srl rd rs1 rs2) is = rw (is.0, is.1, is.2, is.3, is.4, is.5) refl
decoded_as w (Sra rd rs1 rs2) is = rw (is.0, is.1, is.2, is.3, is.4, is.5) refl
decoded_as w (Or rd rs1 rs2) is = rw (is.0, is.1, is.2, is.3, is.4, is.5) refl
decoded_as w (And rd rs1 rs2) is = rw (is.0, is.1, is.2, is.3, is.4, is.5) refl
decoded_as w (Mul rd rs1 rs2) is = rw (is.0, is.1, is.2, is.3, is.4, is.5) refl
decoded_as w (Mulh rd rs1 rs2) is = rw (is.0, is.1, is.2, is.3, is.4, is.5) refl
decoded_as w (Mulhsu rd rs1 rs2) is = rw (is.0, is.1, is.2, is.3, is.4, is.5) refl
decoded_as w (Mulhu rd rs1 rs2) is = rw (is.0, is.1, is.2, is.3, is.4, is.5) refl
decoded_as w (Div rd rs1 rs2) is = rw (is.0, is.1, is.2, is.3, is.4, is.5) refl
decoded_as w (Divu rd rs1 rs2) is = rw (is.0, is.1, is.2, is.3, is.4, is.5) refl
decoded_as w (Rem rd rs1 rs2) is = rw (is.0, is.1, is.2, is.3, is.4, is.5) refl
decoded_as w (Remu rd rs1 rs2) is = rw (is.0, is.1, is.2, is.3, is.4, is.5) refl
decoded_as w (Fence fm pred succ rs1 rd) is = rw (is.0, is.1, is.2, is.3, is.4, is.5, is.6) refl
decoded_as w Ecall is = rw is refl
decoded_as w Ebreak is = rw is refl

abbrev some_or : Instr → Option Instr → Instr
some_or other None = other
some_or other (Some i) = i

pub one_instruction : (w : ℕ) (a b : Instr) → Encodes w a → Encodes w b → a ≡ b
one_instruction w a b of_a of_b = ap (some_or a) (sym (decoded_as w a of_a) ∙ decoded_as w b of_b)
