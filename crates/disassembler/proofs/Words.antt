-- Words put together from the numbers of their texts.
use Rattle.std.proofs.Common.{◌≡◌, ℕ, ◌+◌, ◌-◌, ◌*◌, ◌/◌, ◌%◌, ◌^◌, ◌<◌, refl, arith}
use Rattle.decoder.specs.Word.{bits}
use Rattle.decoder.specs.Forms.{i_immediate, s_immediate, b_immediate, u_immediate, j_immediate}

-- the word of six fields
abbrev pub placed : (funct7 rs2 rs1 funct3 rd opcode : ℕ) → ℕ
placed funct7 rs2 rs1 funct3 rd opcode = funct7 * 2 ^ 25 + rs2 * 2 ^ 20 + rs1 * 2 ^ 15 + funct3 * 2 ^ 12 + rd * 2 ^ 7 + opcode

abbrev pub i_word : (immediate rs1 funct3 rd opcode : ℕ) → ℕ
i_word immediate rs1 funct3 rd opcode = placed (immediate / 2 ^ 5 % 2 ^ 7) (immediate % 2 ^ 5) rs1 funct3 rd opcode

abbrev pub s_word : (immediate rs2 rs1 funct3 : ℕ) → ℕ
s_word immediate rs2 rs1 funct3 = placed (immediate / 2 ^ 5 % 2 ^ 7) rs2 rs1 funct3 (immediate % 2 ^ 5) 0b0100011

abbrev pub b_word : (offset rs2 rs1 funct3 : ℕ) → ℕ
b_word offset rs2 rs1 funct3 =
    placed (offset / 2 ^ 31 * 2 ^ 6 + offset / 2 ^ 5 % 2 ^ 6) rs2 rs1 funct3 (offset / 2 % 2 ^ 4 * 2 + offset / 2 ^ 11 % 2) 0b1100011

abbrev pub u_word : (upper rd opcode : ℕ) → ℕ
u_word upper rd opcode = upper * 2 ^ 12 + rd * 2 ^ 7 + opcode

abbrev pub j_word : (offset rd : ℕ) → ℕ
j_word offset rd =
    offset / 2 ^ 31 * 2 ^ 31 + offset / 2 % 2 ^ 10 * 2 ^ 21 + offset / 2 ^ 11 % 2 * 2 ^ 20 + offset / 2 ^ 12 % 2 ^ 8 * 2 ^ 12 + rd * 2 ^ 7 + 0b1101111

abbrev pub fence_word : (fm pred succ rs1 rd : ℕ) → ℕ
fence_word fm pred succ rs1 rd = fm * 2 ^ 28 + pred * 2 ^ 24 + succ * 2 ^ 20 + rs1 * 2 ^ 15 + rd * 2 ^ 7 + 0b0001111

-- the offset from an address to a target
abbrev pub offset_to : (address target : ℕ) → ℕ
offset_to address target = (target + 2 ^ 32 - address % 2 ^ 32) % 2 ^ 32

pub placed-bits : (w funct7 funct3 opcode : ℕ) → w < 2 ^ 32 → bits w 25 7 ≡ funct7 → bits w 12 3 ≡ funct3 → bits w 0 7 ≡ opcode → placed funct7 (bits w 20 5) (bits w 15 5) funct3 (bits w 7 5) opcode ≡ w
placed-bits w funct7 funct3 opcode small e7 e3 e = omega arith

i_high : (w : ℕ) → w < 2 ^ 32 → i_immediate w / 2 ^ 5 % 2 ^ 7 ≡ bits w 25 7
i_high w small = omega arith

i_low : (w : ℕ) → w < 2 ^ 32 → i_immediate w % 2 ^ 5 ≡ bits w 20 5
i_low w small = omega arith

pub i_word-bits : (w funct3 opcode : ℕ) → w < 2 ^ 32 → bits w 12 3 ≡ funct3 → bits w 0 7 ≡ opcode → i_word (i_immediate w) (bits w 15 5) funct3 (bits w 7 5) opcode ≡ w
i_word-bits w funct3 opcode small e3 e =
    rw (i_high w small, i_low w small) (placed-bits w (bits w 25 7) funct3 opcode small refl e3 e)

s_high : (w : ℕ) → w < 2 ^ 32 → s_immediate w / 2 ^ 5 % 2 ^ 7 ≡ bits w 25 7
s_high w small = omega arith

s_low : (w : ℕ) → w < 2 ^ 32 → s_immediate w % 2 ^ 5 ≡ bits w 7 5
s_low w small = omega arith

pub s_word-bits : (w funct3 : ℕ) → w < 2 ^ 32 → bits w 12 3 ≡ funct3 → bits w 0 7 ≡ 0b0100011 → s_word (s_immediate w) (bits w 20 5) (bits w 15 5) funct3 ≡ w
s_word-bits w funct3 small e3 e =
    rw (s_high w small, s_low w small) (placed-bits w (bits w 25 7) funct3 0b0100011 small refl e3 e)

b_high : (w : ℕ) → w < 2 ^ 32 → b_immediate w / 2 ^ 31 * 2 ^ 6 + b_immediate w / 2 ^ 5 % 2 ^ 6 ≡ bits w 25 7
b_high w small = omega arith

b_low : (w : ℕ) → w < 2 ^ 32 → b_immediate w / 2 % 2 ^ 4 * 2 + b_immediate w / 2 ^ 11 % 2 ≡ bits w 7 5
b_low w small = omega arith

pub b_word-bits : (w funct3 : ℕ) → w < 2 ^ 32 → bits w 12 3 ≡ funct3 → bits w 0 7 ≡ 0b1100011 → b_word (b_immediate w) (bits w 20 5) (bits w 15 5) funct3 ≡ w
b_word-bits w funct3 small e3 e =
    rw (b_high w small, b_low w small) (placed-bits w (bits w 25 7) funct3 0b1100011 small refl e3 e)

pub u_word-bits : (w opcode : ℕ) → w < 2 ^ 32 → bits w 0 7 ≡ opcode → u_word (u_immediate w / 2 ^ 12) (bits w 7 5) opcode ≡ w
u_word-bits w opcode small e = omega arith

pub j_word-bits : (w : ℕ) → w < 2 ^ 32 → bits w 0 7 ≡ 0b1101111 → j_word (j_immediate w) (bits w 7 5) ≡ w
j_word-bits w small e = omega arith

pub fence_word-bits : (w : ℕ) → w < 2 ^ 32 → bits w 12 3 ≡ 0 → bits w 0 7 ≡ 0b0001111 → fence_word (bits w 28 4) (bits w 24 4) (bits w 20 4) (bits w 15 5) (bits w 7 5) ≡ w
fence_word-bits w small e3 e = omega arith

pub offset_back : (address offset : ℕ) → offset < 2 ^ 32 → offset_to address ((address + offset) % 2 ^ 32) ≡ offset
offset_back address offset small = omega arith

pub i_immediate-lt : (w : ℕ) → i_immediate w < 2 ^ 32
i_immediate-lt w = omega arith

pub s_immediate-lt : (w : ℕ) → s_immediate w < 2 ^ 32
s_immediate-lt w = omega arith

pub b_immediate-lt : (w : ℕ) → b_immediate w < 2 ^ 32
b_immediate-lt w = omega arith

pub j_immediate-lt : (w : ℕ) → j_immediate w < 2 ^ 32
j_immediate-lt w = omega arith

pub upper-lt : (w : ℕ) → u_immediate w / 2 ^ 12 < 16 ^ 5
upper-lt w = omega arith

pub register-lt : (w low : ℕ) → bits w low 5 < 2 ^ 64
register-lt w low = omega arith

pub field-lt : (w low : ℕ) → bits w low 4 < 2 ^ 64
field-lt w low = omega arith
