-- A word is put together again from its text.
use Rattle.std.proofs.Common.{◌≡◌, ℕ, ◌+◌, ◌*◌, ◌/◌, ◌%◌, ◌^◌, ◌<◌, List, [], ◌∷◌, ◌++◌, Option, Some, None, ap, ◌∙◌, arith, append-nil, codes, decimal}
use Rattle.std.specs.Str.Parse.{digits_value}
use Rattle.decoder.specs.Word.{bits}
use Rattle.decoder.specs.Forms.{i_immediate, s_immediate, b_immediate, u_immediate, j_immediate}
use Rattle.decoder.specs.Decoding.{entry}
use Rattle.text_output.specs.Digits.{hexadecimal}
use Rattle.disassembler.specs.Operands.{register_text, signed_text}
use Rattle.disassembler.proofs.Separators.{before, after, two, three, two-joined, three-joined}
use Rattle.disassembler.proofs.Numerals.{register_read, signed_read, hexadecimal_read, of_indirect, decimal_lacks, decimal_back, register_lacks, register_back, signed_back, indirect_back, hexadecimal_back}
use Rattle.disassembler.proofs.Words.{placed, i_word, s_word, b_word, u_word, j_word, fence_word, offset_to, placed-bits, i_word-bits, s_word-bits, b_word-bits, u_word-bits, j_word-bits, fence_word-bits, offset_back, i_immediate-lt, s_immediate-lt, b_immediate-lt, j_immediate-lt, upper-lt, register-lt, field-lt}

-- What the operands of each form stand for, by the name's fixed fields.
abbrev pub registers_read : (funct7 funct3 : ℕ) → List ℕ → ℕ
registers_read funct7 funct3 = three (λ rd rs1 rest. placed funct7 (register_read rest) rs1 funct3 rd 0b0110011) register_read register_read

abbrev pub shift_read : (funct7 funct3 : ℕ) → List ℕ → ℕ
shift_read funct7 funct3 = three (λ rd rs1 rest. placed funct7 (digits_value 10 rest) rs1 funct3 rd 0b0010011) register_read register_read

abbrev pub immediate_read : (funct3 : ℕ) → List ℕ → ℕ
immediate_read funct3 = three (λ rd rs1 rest. i_word (signed_read rest) rs1 funct3 rd 0b0010011) register_read register_read

abbrev pub indirect_read : (funct3 opcode : ℕ) → List ℕ → ℕ
indirect_read funct3 opcode = two (λ rd rest. of_indirect (λ offset rs1. i_word offset rs1 funct3 rd opcode) rest) register_read

abbrev pub store_read : (funct3 : ℕ) → List ℕ → ℕ
store_read funct3 = two (λ rs2 rest. of_indirect (λ offset rs1. s_word offset rs2 rs1 funct3) rest) register_read

abbrev pub branch_read : (funct3 address : ℕ) → List ℕ → ℕ
branch_read funct3 address = three (λ rs1 rs2 rest. b_word (offset_to address (hexadecimal_read rest)) rs2 rs1 funct3) register_read register_read

abbrev pub upper_read : (opcode : ℕ) → List ℕ → ℕ
upper_read opcode = two (λ rd rest. u_word (hexadecimal_read rest) rd opcode) register_read

abbrev pub jump_read : (address : ℕ) → List ℕ → ℕ
jump_read address = two (λ rd rest. j_word (offset_to address (hexadecimal_read rest)) rd) register_read

abbrev pub fence_read : List ℕ → ℕ
fence_read =
    three (λ fm pred rest. three (λ succ rs1 last. fence_word fm pred succ rs1 (register_read last)) (digits_value 10) register_read rest) (digits_value 10) (digits_value 10)

-- a name as a number
abbrev pub key : List ℕ → ℕ
key [] = 0
key (byte ∷ bytes) = byte + 256 * key bytes

-- what to make of an address and the operands, by the name
abbrev pub readers : List (ℕ × (ℕ → List ℕ → ℕ))
readers =
    (key (codes "lui"), λ address. upper_read 0b0110111) ∷
    (key (codes "auipc"), λ address. upper_read 0b0010111) ∷
    (key (codes "jal"), jump_read) ∷
    (key (codes "jalr"), λ address. indirect_read 0b000 0b1100111) ∷
    (key (codes "beq"), branch_read 0b000) ∷
    (key (codes "bne"), branch_read 0b001) ∷
    (key (codes "blt"), branch_read 0b100) ∷
    (key (codes "bge"), branch_read 0b101) ∷
    (key (codes "bltu"), branch_read 0b110) ∷
    (key (codes "bgeu"), branch_read 0b111) ∷
    (key (codes "lb"), λ address. indirect_read 0b000 0b0000011) ∷
    (key (codes "lh"), λ address. indirect_read 0b001 0b0000011) ∷
    (key (codes "lw"), λ address. indirect_read 0b010 0b0000011) ∷
    (key (codes "lbu"), λ address. indirect_read 0b100 0b0000011) ∷
    (key (codes "lhu"), λ address. indirect_read 0b101 0b0000011) ∷
    (key (codes "sb"), λ address. store_read 0b000) ∷
    (key (codes "sh"), λ address. store_read 0b001) ∷
    (key (codes "sw"), λ address. store_read 0b010) ∷
    (key (codes "addi"), λ address. immediate_read 0b000) ∷
    (key (codes "slti"), λ address. immediate_read 0b010) ∷
    (key (codes "sltiu"), λ address. immediate_read 0b011) ∷
    (key (codes "xori"), λ address. immediate_read 0b100) ∷
    (key (codes "ori"), λ address. immediate_read 0b110) ∷
    (key (codes "andi"), λ address. immediate_read 0b111) ∷
    (key (codes "slli"), λ address. shift_read 0b0000000 0b001) ∷
    (key (codes "srli"), λ address. shift_read 0b0000000 0b101) ∷
    (key (codes "srai"), λ address. shift_read 0b0100000 0b101) ∷
    (key (codes "add"), λ address. registers_read 0b0000000 0b000) ∷
    (key (codes "sub"), λ address. registers_read 0b0100000 0b000) ∷
    (key (codes "sll"), λ address. registers_read 0b0000000 0b001) ∷
    (key (codes "slt"), λ address. registers_read 0b0000000 0b010) ∷
    (key (codes "sltu"), λ address. registers_read 0b0000000 0b011) ∷
    (key (codes "xor"), λ address. registers_read 0b0000000 0b100) ∷
    (key (codes "srl"), λ address. registers_read 0b0000000 0b101) ∷
    (key (codes "sra"), λ address. registers_read 0b0100000 0b101) ∷
    (key (codes "or"), λ address. registers_read 0b0000000 0b110) ∷
    (key (codes "and"), λ address. registers_read 0b0000000 0b111) ∷
    (key (codes "mul"), λ address. registers_read 0b0000001 0b000) ∷
    (key (codes "mulh"), λ address. registers_read 0b0000001 0b001) ∷
    (key (codes "mulhsu"), λ address. registers_read 0b0000001 0b010) ∷
    (key (codes "mulhu"), λ address. registers_read 0b0000001 0b011) ∷
    (key (codes "div"), λ address. registers_read 0b0000001 0b100) ∷
    (key (codes "divu"), λ address. registers_read 0b0000001 0b101) ∷
    (key (codes "rem"), λ address. registers_read 0b0000001 0b110) ∷
    (key (codes "remu"), λ address. registers_read 0b0000001 0b111) ∷
    (key (codes "fence"), λ address. fence_read) ∷
    (key (codes "ecall"), λ address text. 0x00000073) ∷
    (key (codes "ebreak"), λ address text. 0x00100073) ∷
    (key (codes ".word"), λ address. hexadecimal_read) ∷
    []

abbrev pub read_by : Option (ℕ → List ℕ → ℕ) → ℕ → List ℕ → ℕ
read_by None address text = 0
read_by (Some reader) address text = reader address text

-- the word whose text at an address this is
abbrev pub assembled : (address : ℕ) → List ℕ → ℕ
assembled address text = read_by (entry readers (key (before 32 text))) address (after 32 text)

-- Each form gives the word back.
pub registers_back : {funct7 funct3 : ℕ} (w : ℕ) → w < 2 ^ 32 → bits w 0 7 ≡ 0b0110011 → bits w 25 7 ≡ funct7 → bits w 12 3 ≡ funct3 → registers_read funct7 funct3 (register_text (bits w 7 5) ++ 44 ∷ (register_text (bits w 15 5) ++ 44 ∷ (register_text (bits w 20 5) ++ []))) ≡ w
registers_back {funct7} {funct3} w small e e7 e3 =
    three-joined (λ rd rs1 rest. placed funct7 (register_read rest) rs1 funct3 rd 0b0110011) register_read register_read (register_text (bits w 7 5)) (register_text (bits w 15 5)) (register_text (bits w 20 5) ++ []) (bits w 7 5) (bits w 15 5)
    (register_lacks 44 (bits w 7 5) (omega arith) (register-lt w 7)) (register_lacks 44 (bits w 15 5) (omega arith) (register-lt w 15)) (register_back (bits w 7 5) (register-lt w 7)) (register_back (bits w 15 5) (register-lt w 15))
    ∙ ap (λ (t : List ℕ). placed funct7 (register_read t) (bits w 15 5) funct3 (bits w 7 5) 0b0110011) (append-nil (register_text (bits w 20 5)))
    ∙ ap (λ (n : ℕ). placed funct7 n (bits w 15 5) funct3 (bits w 7 5) 0b0110011) (register_back (bits w 20 5) (register-lt w 20))
    ∙ placed-bits w funct7 funct3 0b0110011 small e7 e3 e

pub shift_back : {funct7 funct3 : ℕ} (w : ℕ) → w < 2 ^ 32 → bits w 0 7 ≡ 0b0010011 → bits w 25 7 ≡ funct7 → bits w 12 3 ≡ funct3 → shift_read funct7 funct3 (register_text (bits w 7 5) ++ 44 ∷ (register_text (bits w 15 5) ++ 44 ∷ (decimal (bits w 20 5) ++ []))) ≡ w
shift_back {funct7} {funct3} w small e e7 e3 =
    three-joined (λ rd rs1 rest. placed funct7 (digits_value 10 rest) rs1 funct3 rd 0b0010011) register_read register_read (register_text (bits w 7 5)) (register_text (bits w 15 5)) (decimal (bits w 20 5) ++ []) (bits w 7 5) (bits w 15 5)
    (register_lacks 44 (bits w 7 5) (omega arith) (register-lt w 7)) (register_lacks 44 (bits w 15 5) (omega arith) (register-lt w 15)) (register_back (bits w 7 5) (register-lt w 7)) (register_back (bits w 15 5) (register-lt w 15))
    ∙ ap (λ (t : List ℕ). placed funct7 (digits_value 10 t) (bits w 15 5) funct3 (bits w 7 5) 0b0010011) (append-nil (decimal (bits w 20 5)))
    ∙ ap (λ (n : ℕ). placed funct7 n (bits w 15 5) funct3 (bits w 7 5) 0b0010011) (decimal_back (bits w 20 5) (register-lt w 20))
    ∙ placed-bits w funct7 funct3 0b0010011 small e7 e3 e

pub immediate_back : {funct3 : ℕ} (w : ℕ) → w < 2 ^ 32 → bits w 0 7 ≡ 0b0010011 → bits w 12 3 ≡ funct3 → immediate_read funct3 (register_text (bits w 7 5) ++ 44 ∷ (register_text (bits w 15 5) ++ 44 ∷ (signed_text (i_immediate w) ++ []))) ≡ w
immediate_back {funct3} w small e e3 =
    three-joined (λ rd rs1 rest. i_word (signed_read rest) rs1 funct3 rd 0b0010011) register_read register_read (register_text (bits w 7 5)) (register_text (bits w 15 5)) (signed_text (i_immediate w) ++ []) (bits w 7 5) (bits w 15 5)
    (register_lacks 44 (bits w 7 5) (omega arith) (register-lt w 7)) (register_lacks 44 (bits w 15 5) (omega arith) (register-lt w 15)) (register_back (bits w 7 5) (register-lt w 7)) (register_back (bits w 15 5) (register-lt w 15))
    ∙ ap (λ (t : List ℕ). i_word (signed_read t) (bits w 15 5) funct3 (bits w 7 5) 0b0010011) (append-nil (signed_text (i_immediate w)))
    ∙ ap (λ (n : ℕ). i_word n (bits w 15 5) funct3 (bits w 7 5) 0b0010011) (signed_back (i_immediate w) (i_immediate-lt w))
    ∙ i_word-bits w funct3 0b0010011 small e3 e

pub indirect_form : {funct3 opcode : ℕ} (w : ℕ) → w < 2 ^ 32 → bits w 0 7 ≡ opcode → bits w 12 3 ≡ funct3 → indirect_read funct3 opcode (register_text (bits w 7 5) ++ 44 ∷ ((signed_text (i_immediate w) ++ codes "(" ++ register_text (bits w 15 5) ++ codes ")") ++ [])) ≡ w
indirect_form {funct3} {opcode} w small e e3 =
    two-joined (λ rd rest. of_indirect (λ offset rs1. i_word offset rs1 funct3 rd opcode) rest) register_read (register_text (bits w 7 5)) ((signed_text (i_immediate w) ++ codes "(" ++ register_text (bits w 15 5) ++ codes ")") ++ []) (bits w 7 5)
    (register_lacks 44 (bits w 7 5) (omega arith) (register-lt w 7)) (register_back (bits w 7 5) (register-lt w 7))
    ∙ ap (of_indirect (λ offset rs1. i_word offset rs1 funct3 (bits w 7 5) opcode)) (append-nil (signed_text (i_immediate w) ++ codes "(" ++ register_text (bits w 15 5) ++ codes ")"))
    ∙ indirect_back (λ offset rs1. i_word offset rs1 funct3 (bits w 7 5) opcode) (i_immediate w) (bits w 15 5) (i_immediate-lt w) (register-lt w 15)
    ∙ i_word-bits w funct3 opcode small e3 e

pub store_back : {funct3 : ℕ} (w : ℕ) → w < 2 ^ 32 → bits w 0 7 ≡ 0b0100011 → bits w 12 3 ≡ funct3 → store_read funct3 (register_text (bits w 20 5) ++ 44 ∷ ((signed_text (s_immediate w) ++ codes "(" ++ register_text (bits w 15 5) ++ codes ")") ++ [])) ≡ w
store_back {funct3} w small e e3 =
    two-joined (λ rs2 rest. of_indirect (λ offset rs1. s_word offset rs2 rs1 funct3) rest) register_read (register_text (bits w 20 5)) ((signed_text (s_immediate w) ++ codes "(" ++ register_text (bits w 15 5) ++ codes ")") ++ []) (bits w 20 5)
    (register_lacks 44 (bits w 20 5) (omega arith) (register-lt w 20)) (register_back (bits w 20 5) (register-lt w 20))
    ∙ ap (of_indirect (λ offset rs1. s_word offset (bits w 20 5) rs1 funct3)) (append-nil (signed_text (s_immediate w) ++ codes "(" ++ register_text (bits w 15 5) ++ codes ")"))
    ∙ indirect_back (λ offset rs1. s_word offset (bits w 20 5) rs1 funct3) (s_immediate w) (bits w 15 5) (s_immediate-lt w) (register-lt w 15)
    ∙ s_word-bits w funct3 small e3 e

-- the offset is read back from the target's digits
target_back : (address offset : ℕ) → offset < 2 ^ 32 → offset_to address (hexadecimal_read ((codes "0x" ++ hexadecimal 8 ((address + offset) % 2 ^ 32)) ++ [])) ≡ offset
target_back address offset small =
    ap (λ (t : List ℕ). offset_to address (digits_value 16 t)) (append-nil (hexadecimal 8 ((address + offset) % 2 ^ 32)))
    ∙ ap (offset_to address) (hexadecimal_back 8 ((address + offset) % 2 ^ 32) (omega arith))
    ∙ offset_back address offset small

pub branch_back : {funct3 : ℕ} (address w : ℕ) → w < 2 ^ 32 → bits w 0 7 ≡ 0b1100011 → bits w 12 3 ≡ funct3 → branch_read funct3 address (register_text (bits w 15 5) ++ 44 ∷ (register_text (bits w 20 5) ++ 44 ∷ ((codes "0x" ++ hexadecimal 8 ((address + b_immediate w) % 2 ^ 32)) ++ []))) ≡ w
branch_back {funct3} address w small e e3 =
    three-joined (λ rs1 rs2 rest. b_word (offset_to address (hexadecimal_read rest)) rs2 rs1 funct3) register_read register_read (register_text (bits w 15 5)) (register_text (bits w 20 5)) ((codes "0x" ++ hexadecimal 8 ((address + b_immediate w) % 2 ^ 32)) ++ []) (bits w 15 5) (bits w 20 5)
    (register_lacks 44 (bits w 15 5) (omega arith) (register-lt w 15)) (register_lacks 44 (bits w 20 5) (omega arith) (register-lt w 20)) (register_back (bits w 15 5) (register-lt w 15)) (register_back (bits w 20 5) (register-lt w 20))
    ∙ ap (λ (n : ℕ). b_word n (bits w 20 5) (bits w 15 5) funct3) (target_back address (b_immediate w) (b_immediate-lt w))
    ∙ b_word-bits w funct3 small e3 e

pub jump_back : (address w : ℕ) → w < 2 ^ 32 → bits w 0 7 ≡ 0b1101111 → jump_read address (register_text (bits w 7 5) ++ 44 ∷ ((codes "0x" ++ hexadecimal 8 ((address + j_immediate w) % 2 ^ 32)) ++ [])) ≡ w
jump_back address w small e =
    two-joined (λ rd rest. j_word (offset_to address (hexadecimal_read rest)) rd) register_read (register_text (bits w 7 5)) ((codes "0x" ++ hexadecimal 8 ((address + j_immediate w) % 2 ^ 32)) ++ []) (bits w 7 5)
    (register_lacks 44 (bits w 7 5) (omega arith) (register-lt w 7)) (register_back (bits w 7 5) (register-lt w 7))
    ∙ ap (λ (n : ℕ). j_word n (bits w 7 5)) (target_back address (j_immediate w) (j_immediate-lt w))
    ∙ j_word-bits w small e

pub upper_back : {opcode : ℕ} (w : ℕ) → w < 2 ^ 32 → bits w 0 7 ≡ opcode → upper_read opcode (register_text (bits w 7 5) ++ 44 ∷ ((codes "0x" ++ hexadecimal 5 (u_immediate w / 2 ^ 12)) ++ [])) ≡ w
upper_back {opcode} w small e =
    two-joined (λ rd rest. u_word (hexadecimal_read rest) rd opcode) register_read (register_text (bits w 7 5)) ((codes "0x" ++ hexadecimal 5 (u_immediate w / 2 ^ 12)) ++ []) (bits w 7 5)
    (register_lacks 44 (bits w 7 5) (omega arith) (register-lt w 7)) (register_back (bits w 7 5) (register-lt w 7))
    ∙ ap (λ (t : List ℕ). u_word (digits_value 16 t) (bits w 7 5) opcode) (append-nil (hexadecimal 5 (u_immediate w / 2 ^ 12)))
    ∙ ap (λ (n : ℕ). u_word n (bits w 7 5) opcode) (hexadecimal_back 5 (u_immediate w / 2 ^ 12) (upper-lt w))
    ∙ u_word-bits w opcode small e

pub fence_back : (w : ℕ) → w < 2 ^ 32 → bits w 0 7 ≡ 0b0001111 → bits w 12 3 ≡ 0 → fence_read (decimal (bits w 28 4) ++ 44 ∷ (decimal (bits w 24 4) ++ 44 ∷ (decimal (bits w 20 4) ++ 44 ∷ (register_text (bits w 15 5) ++ 44 ∷ (register_text (bits w 7 5) ++ []))))) ≡ w
fence_back w small e e3 =
    let rest : List ℕ = register_text (bits w 7 5) ++ [] in
    let last : List ℕ = decimal (bits w 20 4) ++ 44 ∷ (register_text (bits w 15 5) ++ 44 ∷ rest) in
    three-joined (λ fm pred t. three (λ succ rs1 s. fence_word fm pred succ rs1 (register_read s)) (digits_value 10) register_read t) (digits_value 10) (digits_value 10) (decimal (bits w 28 4)) (decimal (bits w 24 4)) last (bits w 28 4) (bits w 24 4)
    (decimal_lacks 44 (bits w 28 4) (omega arith) (field-lt w 28)) (decimal_lacks 44 (bits w 24 4) (omega arith) (field-lt w 24)) (decimal_back (bits w 28 4) (field-lt w 28)) (decimal_back (bits w 24 4) (field-lt w 24))
    ∙ three-joined (λ succ rs1 s. fence_word (bits w 28 4) (bits w 24 4) succ rs1 (register_read s)) (digits_value 10) register_read (decimal (bits w 20 4)) (register_text (bits w 15 5)) rest (bits w 20 4) (bits w 15 5)
    (decimal_lacks 44 (bits w 20 4) (omega arith) (field-lt w 20)) (register_lacks 44 (bits w 15 5) (omega arith) (register-lt w 15)) (decimal_back (bits w 20 4) (field-lt w 20)) (register_back (bits w 15 5) (register-lt w 15))
    ∙ ap (λ (t : List ℕ). fence_word (bits w 28 4) (bits w 24 4) (bits w 20 4) (bits w 15 5) (register_read t)) (append-nil (register_text (bits w 7 5)))
    ∙ ap (fence_word (bits w 28 4) (bits w 24 4) (bits w 20 4) (bits w 15 5)) (register_back (bits w 7 5) (register-lt w 7))
    ∙ fence_word-bits w small e3 e
