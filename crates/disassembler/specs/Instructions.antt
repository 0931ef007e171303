-- The text of each instruction, by its name in the RISC-V ISA, document version 20191213, chapter 24.
use Rattle.std.specs.Prelude.{ℕ, ◌+◌, ◌%◌, ◌^◌, List, [], ◌∷◌, codes}
use Rattle.decoder.specs.declared.instr.Instr.{Instr}
use Rattle.decoder.specs.declared.instr.Instr.TheVariants.{Lui, Auipc, Jal, Jalr, Beq, Bne, Blt, Bge, Bltu, Bgeu, Lb, Lh, Lw, Lbu, Lhu, Sb, Sh, Sw, Addi, Slti, Sltiu, Xori, Ori, Andi, Slli, Srli, Srai, Add, Sub, Sll, Slt, Sltu, Xor, Srl, Sra, Or, And, Mul, Mulh, Mulhsu, Mulhu, Div, Divu, Rem, Remu, Fence, Ecall, Ebreak}
use Rattle.disassembler.specs.Operands.{line_of}
use Rattle.disassembler.specs.declared.operand.Operand.{Operand}
use Rattle.disassembler.specs.declared.operand.Operand.TheVariants.{Register, Unsigned, Signed, Upper, Address, Indirect}

-- where a branch or a jump at an address leads
abbrev pub target : (address offset : ℕ) → Operand
target address offset = Address ((address + offset) % 2 ^ 32)

-- the text of an instruction at an address
unfoldable pub instruction_text : ℕ → Instr → List ℕ
instruction_text address (Lui rd immediate) = line_of (codes "lui") (Register rd ∷ Upper immediate ∷ [])
instruction_text address (Auipc rd immediate) = line_of (codes "auipc") (Register rd ∷ Upper immediate ∷ [])
instruction_text address (Jal rd offset) = line_of (codes "jal") (Register rd ∷ target address offset ∷ [])
instruction_text address (Jalr rd rs1 offset) = line_of (codes "jalr") (Register rd ∷ Indirect offset rs1 ∷ [])
instruction_text address (Beq rs1 rs2 offset) = line_of (codes "beq") (Register rs1 ∷ Register rs2 ∷ target address offset ∷ [])
instruction_text address (Bne rs1 rs2 offset) = line_of (codes "bne") (Register rs1 ∷ Register rs2 ∷ target address offset ∷ [])
instruction_text address (Blt rs1 rs2 offset) = line_of (codes "blt") (Register rs1 ∷ Register rs2 ∷ target address offset ∷ [])
instruction_text address (Bge rs1 rs2 offset) = line_of (codes "bge") (Register rs1 ∷ Register rs2 ∷ target address offset ∷ [])
instruction_text address (Bltu rs1 rs2 offset) = line_of (codes "bltu") (Register rs1 ∷ Register rs2 ∷ target address offset ∷ [])
instruction_text address (Bgeu rs1 rs2 offset) = line_of (codes "bgeu") (Register rs1 ∷ Register rs2 ∷ target address offset ∷ [])
instruction_text address (Lb rd rs1 offset) = line_of (codes "lb") (Register rd ∷ Indirect offset rs1 ∷ [])
instruction_text address (Lh rd rs1 offset) = line_of (codes "lh") (Register rd ∷ Indirect offset rs1 ∷ [])
instruction_text address (Lw rd rs1 offset) = line_of (codes "lw") (Register rd ∷ Indirect offset rs1 ∷ [])
instruction_text address (Lbu rd rs1 offset) = line_of (codes "lbu") (Register rd ∷ Indirect offset rs1 ∷ [])
instruction_text address (Lhu rd rs1 offset) = line_of (codes "lhu") (Register rd ∷ Indirect offset rs1 ∷ [])
instruction_text address (Sb rs1 rs2 offset) = line_of (codes "sb") (Register rs2 ∷ Indirect offset rs1 ∷ [])
instruction_text address (Sh rs1 rs2 offset) = line_of (codes "sh") (Register rs2 ∷ Indirect offset rs1 ∷ [])
instruction_text address (Sw rs1 rs2 offset) = line_of (codes "sw") (Register rs2 ∷ Indirect offset rs1 ∷ [])
instruction_text address (Addi rd rs1 immediate) = line_of (codes "addi") (Register rd ∷ Register rs1 ∷ Signed immediate ∷ [])
instruction_text address (Slti rd rs1 immediate) = line_of (codes "slti") (Register rd ∷ Register rs1 ∷ Signed immediate ∷ [])
instruction_text address (Sltiu rd rs1 immediate) = line_of (codes "sltiu") (Register rd ∷ Register rs1 ∷ Signed immediate ∷ [])
instruction_text address (Xori rd rs1 immediate) = line_of (codes "xori") (Register rd ∷ Register rs1 ∷ Signed immediate ∷ [])
instruction_text address (Ori rd rs1 immediate) = line_of (codes "ori") (Register rd ∷ Register rs1 ∷ Signed immediate ∷ [])
instruction_text address (Andi rd rs1 immediate) = line_of (codes "andi") (Register rd ∷ Register rs1 ∷ Signed immediate ∷ [])
instruction_text address (Slli rd rs1 amount) = line_of (codes "slli") (Register rd ∷ Register rs1 ∷ Unsigned amount ∷ [])
instruction_text address (Srli rd rs1 amount) = line_of (codes "srli") (Register rd ∷ Register rs1 ∷ Unsigned amount ∷ [])
instruction_text address (Srai rd rs1 amount) = line_of (codes "srai") (Register rd ∷ Register rs1 ∷ Unsigned amount ∷ [])
instruction_text address (Add rd rs1 rs2) = line_of (codes "add") (Register rd ∷ Register rs1 ∷ Register rs2 ∷ [])
instruction_text address (Sub rd rs1 rs2) = line_of (codes "sub") (Register rd ∷ Register rs1 ∷ Register rs2 ∷ [])
instruction_text address (Sll rd rs1 rs2) = line_of (codes "sll") (Register rd ∷ Register rs1 ∷ Register rs2 ∷ [])
instruction_text address (Slt rd rs1 rs2) = line_of (codes "slt") (Register rd ∷ Register rs1 ∷ Register rs2 ∷ [])
instruction_text address (Sltu rd rs1 rs2) = line_of (codes "sltu") (Register rd ∷ Register rs1 ∷ Register rs2 ∷ [])
instruction_text address (Xor rd rs1 rs2) = line_of (codes "xor") (Register rd ∷ Register rs1 ∷ Register rs2 ∷ [])
instruction_text address (Srl rd rs1 rs2) = line_of (codes "srl") (Register rd ∷ Register rs1 ∷ Register rs2 ∷ [])
instruction_text address (Sra rd rs1 rs2) = line_of (codes "sra") (Register rd ∷ Register rs1 ∷ Register rs2 ∷ [])
instruction_text address (Or rd rs1 rs2) = line_of (codes "or") (Register rd ∷ Register rs1 ∷ Register rs2 ∷ [])
instruction_text address (And rd rs1 rs2) = line_of (codes "and") (Register rd ∷ Register rs1 ∷ Register rs2 ∷ [])
instruction_text address (Mul rd rs1 rs2) = line_of (codes "mul") (Register rd ∷ Register rs1 ∷ Register rs2 ∷ [])
instruction_text address (Mulh rd rs1 rs2) = line_of (codes "mulh") (Register rd ∷ Register rs1 ∷ Register rs2 ∷ [])
instruction_text address (Mulhsu rd rs1 rs2) = line_of (codes "mulhsu") (Register rd ∷ Register rs1 ∷ Register rs2 ∷ [])
instruction_text address (Mulhu rd rs1 rs2) = line_of (codes "mulhu") (Register rd ∷ Register rs1 ∷ Register rs2 ∷ [])
instruction_text address (Div rd rs1 rs2) = line_of (codes "div") (Register rd ∷ Register rs1 ∷ Register rs2 ∷ [])
instruction_text address (Divu rd rs1 rs2) = line_of (codes "divu") (Register rd ∷ Register rs1 ∷ Register rs2 ∷ [])
instruction_text address (Rem rd rs1 rs2) = line_of (codes "rem") (Register rd ∷ Register rs1 ∷ Register rs2 ∷ [])
instruction_text address (Remu rd rs1 rs2) = line_of (codes "remu") (Register rd ∷ Register rs1 ∷ Register rs2 ∷ [])
instruction_text address (Fence fm pred succ rs1 rd) = line_of (codes "fence") (Unsigned fm ∷ Unsigned pred ∷ Unsigned succ ∷ Register rs1 ∷ Register rd ∷ [])
instruction_text address Ecall = codes "ecall"
instruction_text address Ebreak = codes "ebreak"
