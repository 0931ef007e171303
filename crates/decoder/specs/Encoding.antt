-- Which word encodes which instruction: a row of field equations for each of the 48 instructions, as the
-- RISC-V ISA, document version 20191213, lists them in chapter 24.
use Rattle.std.specs.Prelude.{◌≡◌, ℕ, Option, IfSome}
use Rattle.decoder.specs.Forms.{RForm, IForm, SForm, BForm, UForm, JForm, FenceForm}
use Rattle.decoder.specs.declared.instr.Instr.{Instr}
use Rattle.decoder.specs.declared.instr.Instr.TheVariants.{Lui, Auipc, Jal, Jalr, Beq, Bne, Blt, Bge, Bltu, Bgeu, Lb, Lh, Lw, Lbu, Lhu, Sb, Sh, Sw, Addi, Slti, Sltiu, Xori, Ori, Andi, Slli, Srli, Srai, Add, Sub, Sll, Slt, Sltu, Xor, Srl, Sra, Or, And, Mul, Mulh, Mulhsu, Mulhu, Div, Divu, Rem, Remu, Fence, Ecall, Ebreak}

-- The word w encodes the instruction. The arguments of a form stand in the order of its fields in the
-- listing, from the left. FENCE fixes its opcode and funct3 alone, ECALL and EBREAK fix the whole word.
unfoldable pub Encodes : ℕ → Instr → Type 0
Encodes w (Lui rd immediate) = UForm w immediate rd 0b0110111
Encodes w (Auipc rd immediate) = UForm w immediate rd 0b0010111
Encodes w (Jal rd offset) = JForm w offset rd 0b1101111
Encodes w (Jalr rd rs1 offset) = IForm w offset rs1 0b000 rd 0b1100111
Encodes w (Beq rs1 rs2 offset) = BForm w offset rs2 rs1 0b000 0b1100011
Encodes w (Bne rs1 rs2 offset) = BForm w offset rs2 rs1 0b001 0b1100011
Encodes w (Blt rs1 rs2 offset) = BForm w offset rs2 rs1 0b100 0b1100011
Encodes w (Bge rs1 rs2 offset) = BForm w offset rs2 rs1 0b101 0b1100011
Encodes w (Bltu rs1 rs2 offset) = BForm w offset rs2 rs1 0b110 0b1100011
Encodes w (Bgeu rs1 rs2 offset) = BForm w offset rs2 rs1 0b111 0b1100011
Encodes w (Lb rd rs1 offset) = IForm w offset rs1 0b000 rd 0b0000011
Encodes w (Lh rd rs1 offset) = IForm w offset rs1 0b001 rd 0b0000011
Encodes w (Lw rd rs1 offset) = IForm w offset rs1 0b010 rd 0b0000011
Encodes w (Lbu rd rs1 offset) = IForm w offset rs1 0b100 rd 0b0000011
Encodes w (Lhu rd rs1 offset) = IForm w offset rs1 0b101 rd 0b0000011
Encodes w (Sb rs1 rs2 offset) = SForm w offset rs2 rs1 0b000 0b0100011
Encodes w (Sh rs1 rs2 offset) = SForm w offset rs2 rs1 0b001 0b0100011
Encodes w (Sw rs1 rs2 offset) = SForm w offset rs2 rs1 0b010 0b0100011
Encodes w (Addi rd rs1 immediate) = IForm w immediate rs1 0b000 rd 0b0010011
Encodes w (Slti rd rs1 immediate) = IForm w immediate rs1 0b010 rd 0b0010011
Encodes w (Sltiu rd rs1 immediate) = IForm w immediate rs1 0b011 rd 0b0010011
Encodes w (Xori rd rs1 immediate) = IForm w immediate rs1 0b100 rd 0b0010011
Encodes w (Ori rd rs1 immediate) = IForm w immediate rs1 0b110 rd 0b0010011
Encodes w (Andi rd rs1 immediate) = IForm w immediate rs1 0b111 rd 0b0010011
Encodes w (Slli rd rs1 amount) = RForm w 0b0000000 amount rs1 0b001 rd 0b0010011
Encodes w (Srli rd rs1 amount) = RForm w 0b0000000 amount rs1 0b101 rd 0b0010011
Encodes w (Srai rd rs1 amount) = RForm w 0b0100000 amount rs1 0b101 rd 0b0010011
Encodes w (Add rd rs1 rs2) = RForm w 0b0000000 rs2 rs1 0b000 rd 0b0110011
Encodes w (Sub rd rs1 rs2) = RForm w 0b0100000 rs2 rs1 0b000 rd 0b0110011
Encodes w (Sll rd rs1 rs2) = RForm w 0b0000000 rs2 rs1 0b001 rd 0b0110011
Encodes w (Slt rd rs1 rs2) = RForm w 0b0000000 rs2 rs1 0b010 rd 0b0110011
Encodes w (Sltu rd rs1 rs2) = RForm w 0b0000000 rs2 rs1 0b011 rd 0b0110011
Encodes w (Xor rd rs1 rs2) = RForm w 0b0000000 rs2 rs1 0b100 rd 0b0110011
Encodes w (Srl rd rs1 rs2) = RForm w 0b0000000 rs2 rs1 0b101 rd 0b0110011
Encodes w (Sra rd rs1 rs2) = RForm w 0b0100000 rs2 rs1 0b101 rd 0b0110011
Encodes w (Or rd rs1 rs2) = RForm w 0b0000000 rs2 rs1 0b110 rd 0b0110011
Encodes w (And rd rs1 rs2) = RForm w 0b0000000 rs2 rs1 0b111 rd 0b0110011
Encodes w (Mul rd rs1 rs2) = RForm w 0b0000001 rs2 rs1 0b000 rd 0b0110011
Encodes w (Mulh rd rs1 rs2) = RForm w 0b0000001 rs2 rs1 0b001 rd 0b0110011
Encodes w (Mulhsu rd rs1 rs2) = RForm w 0b0000001 rs2 rs1 0b010 rd 0b0110011
Encodes w (Mulhu rd rs1 rs2) = RForm w 0b0000001 rs2 rs1 0b011 rd 0b0110011
Encodes w (Div rd rs1 rs2) = RForm w 0b0000001 rs2 rs1 0b100 rd 0b0110011
Encodes w (Divu rd rs1 rs2) = RForm w 0b0000001 rs2 rs1 0b101 rd 0b0110011
Encodes w (Rem rd rs1 rs2) = RForm w 0b0000001 rs2 rs1 0b110 rd 0b0110011
Encodes w (Remu rd rs1 rs2) = RForm w 0b0000001 rs2 rs1 0b111 rd 0b0110011
Encodes w (Fence fm pred succ rs1 rd) = FenceForm w fm pred succ rs1 0b000 rd 0b0001111
Encodes w Ecall = w ≡ 0x00000073
Encodes w Ebreak = w ≡ 0x00100073

-- What a word was decoded to is what is wanted of it. If that is an instruction, the word encodes it.
pub record Decodes (word : ℕ) (wanted result : Option Instr) : Type 0 where
  pub sound : IfSome result (Encodes word)
  pub computed : result ≡ wanted
