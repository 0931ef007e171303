-- The word of an instruction as a function, for the equality of instructions: by the forms of the RISC-V ISA, chapters 2.2 and 2.3.
-- The arguments of a form are in the order of its fields, from bit 31 down. `encode` is proved to give the word that both this
-- function and the relation `Encodes` name.
use Rattle.std.specs.Prelude.{ℕ, ◌+◌, ◌*◌, ◌/◌, ◌%◌, ◌^◌}
use Rattle.decoder.specs.declared.instr.Instr.{Instr}
use Rattle.decoder.specs.declared.instr.Instr.TheVariants.{Lui, Auipc, Jal, Jalr, Beq, Bne, Blt, Bge, Bltu, Bgeu, Lb, Lh, Lw, Lbu, Lhu, Sb, Sh, Sw, Addi, Slti, Sltiu, Xori, Ori, Andi, Slli, Srli, Srai, Add, Sub, Sll, Slt, Sltu, Xor, Srl, Sra, Or, And, Mul, Mulh, Mulhsu, Mulhu, Div, Divu, Rem, Remu, Fence, Ecall, Ebreak}

-- the fields, each in its place
abbrev pub r_word : (funct7 rs2 rs1 funct3 rd opcode : ℕ) → ℕ
r_word funct7 rs2 rs1 funct3 rd opcode = funct7 * 2 ^ 25 + rs2 * 2 ^ 20 + rs1 * 2 ^ 15 + funct3 * 2 ^ 12 + rd * 2 ^ 7 + opcode

-- imm[11:0] in bits 31 to 20
abbrev pub i_word : (immediate rs1 funct3 rd opcode : ℕ) → ℕ
i_word immediate rs1 funct3 rd opcode = r_word (immediate / 2 ^ 5 % 2 ^ 7) (immediate % 2 ^ 5) rs1 funct3 rd opcode

-- imm[11:5] in bits 31 to 25, imm[4:0] in bits 11 to 7
abbrev pub s_word : (immediate rs2 rs1 funct3 opcode : ℕ) → ℕ
s_word immediate rs2 rs1 funct3 opcode = r_word (immediate / 2 ^ 5 % 2 ^ 7) rs2 rs1 funct3 (immediate % 2 ^ 5) opcode

-- imm[12] in bit 31, imm[10:5] in bits 30 to 25, imm[4:1] in bits 11 to 8, imm[11] in bit 7
abbrev pub b_word : (immediate rs2 rs1 funct3 opcode : ℕ) → ℕ
b_word immediate rs2 rs1 funct3 opcode =
    r_word (immediate / 2 ^ 31 * 2 ^ 6 + immediate / 2 ^ 5 % 2 ^ 6) rs2 rs1 funct3 (immediate / 2 % 2 ^ 4 * 2 + immediate / 2 ^ 11 % 2) opcode

-- imm[31:12] in bits 31 to 12
abbrev pub u_word : (immediate rd opcode : ℕ) → ℕ
u_word immediate rd opcode = immediate + rd * 2 ^ 7 + opcode

-- imm[20] in bit 31, imm[10:1] in bits 30 to 21, imm[11] in bit 20, imm[19:12] in bits 19 to 12
abbrev pub j_word : (immediate rd opcode : ℕ) → ℕ
j_word immediate rd opcode =
    immediate / 2 ^ 31 * 2 ^ 31 + immediate / 2 % 2 ^ 10 * 2 ^ 21 + (immediate / 2 ^ 11 % 2 * 2 ^ 20 + immediate / 2 ^ 12 % 2 ^ 8 * 2 ^ 12) + rd * 2 ^ 7 + opcode

-- fm, pred and succ in the place of an I form's immediate
abbrev pub fence_word : (fm pred succ rs1 funct3 rd opcode : ℕ) → ℕ
fence_word fm pred succ rs1 funct3 rd opcode = r_word ((fm * 2 ^ 8 + pred * 2 ^ 4 + succ) / 2 ^ 5) ((fm * 2 ^ 8 + pred * 2 ^ 4 + succ) % 2 ^ 5) rs1 funct3 rd opcode

-- the word of an instruction
unfoldable pub encoded : Instr → ℕ
encoded (Lui rd immediate) = u_word immediate rd 0b0110111
encoded (Auipc rd immediate) = u_word immediate rd 0b0010111
encoded (Jal rd offset) = j_word offset rd 0b1101111
encoded (Jalr rd rs1 offset) = i_word offset rs1 0b000 rd 0b1100111
encoded (Beq rs1 rs2 offset) = b_word offset rs2 rs1 0b000 0b1100011
encoded (Bne rs1 rs2 offset) = b_word offset rs2 rs1 0b001 0b1100011
encoded (Blt rs1 rs2 offset) = b_word offset rs2 rs1 0b100 0b1100011
encoded (Bge rs1 rs2 offset) = b_word offset rs2 rs1 0b101 0b1100011
encoded (Bltu rs1 rs2 offset) = b_word offset rs2 rs1 0b110 0b1100011
encoded (Bgeu rs1 rs2 offset) = b_word offset rs2 rs1 0b111 0b1100011
encoded (Lb rd rs1 offset) = i_word offset rs1 0b000 rd 0b0000011
encoded (Lh rd rs1 offset) = i_word offset rs1 0b001 rd 0b0000011
encoded (Lw rd rs1 offset) = i_word offset rs1 0b010 rd 0b0000011
encoded (Lbu rd rs1 offset) = i_word offset rs1 0b100 rd 0b0000011
encoded (Lhu rd rs1 offset) = i_word offset rs1 0b101 rd 0b0000011
encoded (Sb rs1 rs2 offset) = s_word offset rs2 rs1 0b000 0b0100011
encoded (Sh rs1 rs2 offset) = s_word offset rs2 rs1 0b001 0b0100011
encoded (Sw rs1 rs2 offset) = s_word offset rs2 rs1 0b010 0b0100011
encoded (Addi rd rs1 immediate) = i_word immediate rs1 0b000 rd 0b0010011
encoded (Slti rd rs1 immediate) = i_word immediate rs1 0b010 rd 0b0010011
encoded (Sltiu rd rs1 immediate) = i_word immediate rs1 0b011 rd 0b0010011
encoded (Xori rd rs1 immediate) = i_word immediate rs1 0b100 rd 0b0010011
encoded (Ori rd rs1 immediate) = i_word immediate rs1 0b110 rd 0b0010011
encoded (Andi rd rs1 immediate) = i_word immediate rs1 0b111 rd 0b0010011
encoded (Slli rd rs1 amount) = r_word 0b0000000 amount rs1 0b001 rd 0b0010011
encoded (Srli rd rs1 amount) = r_word 0b0000000 amount rs1 0b101 rd 0b0010011
encoded (Srai rd rs1 amount) = r_word 0b0100000 amount rs1 0b101 rd 0b0010011
encoded (Add rd rs1 rs2) = r_word 0b0000000 rs2 rs1 0b000 rd 0b0110011
encoded (Sub rd rs1 rs2) = r_word 0b0100000 rs2 rs1 0b000 rd 0b0110011
encoded (Sll rd rs1 rs2) = r_word 0b0000000 rs2 rs1 0b001 rd 0b0110011
encoded (Slt rd rs1 rs2) = r_word 0b0000000 rs2 rs1 0b010 rd 0b0110011
encoded (Sltu rd rs1 rs2) = r_word 0b0000000 rs2 rs1 0b011 rd 0b0110011
encoded (Xor rd rs1 rs2) = r_word 0b0000000 rs2 rs1 0b100 rd 0b0110011
encoded (Srl rd rs1 rs2) = r_word 0b0000000 rs2 rs1 0b101 rd 0b0110011
encoded (Sra rd rs1 rs2) = r_word 0b0100000 rs2 rs1 0b101 rd 0b0110011
encoded (Or rd rs1 rs2) = r_word 0b0000000 rs2 rs1 0b110 rd 0b0110011
encoded (And rd rs1 rs2) = r_word 0b0000000 rs2 rs1 0b111 rd 0b0110011
encoded (Mul rd rs1 rs2) = r_word 0b0000001 rs2 rs1 0b000 rd 0b0110011
encoded (Mulh rd rs1 rs2) = r_word 0b0000001 rs2 rs1 0b001 rd 0b0110011
encoded (Mulhsu rd rs1 rs2) = r_word 0b0000001 rs2 rs1 0b010 rd 0b0110011
encoded (Mulhu rd rs1 rs2) = r_word 0b0000001 rs2 rs1 0b011 rd 0b0110011
encoded (Div rd rs1 rs2) = r_word 0b0000001 rs2 rs1 0b100 rd 0b0110011
encoded (Divu rd rs1 rs2) = r_word 0b0000001 rs2 rs1 0b101 rd 0b0110011
encoded (Rem rd rs1 rs2) = r_word 0b0000001 rs2 rs1 0b110 rd 0b0110011
encoded (Remu rd rs1 rs2) = r_word 0b0000001 rs2 rs1 0b111 rd 0b0110011
encoded (Fence fm pred succ rs1 rd) = fence_word fm pred succ rs1 0b000 rd 0b0001111
encoded Ecall = 0x00000073
encoded Ebreak = 0x00100073
