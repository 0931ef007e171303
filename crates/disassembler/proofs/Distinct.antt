-- A word's text says which word it is.
use Rattle.std.proofs.Common.{◌≡◌, ℕ, ◌^◌, ◌<◌, Bool, true, false, ◌==◌, if◌then◌else◌, List, [], ◌∷◌, Option, Some, None, refl, sym, ap, ◌∙◌, eqb-true}
use Rattle.std.specs.Option.{option_map, option_or}
use Rattle.decoder.specs.Word.{bits}
use Rattle.decoder.specs.Forms.{i_immediate, s_immediate, b_immediate, u_immediate, j_immediate}
use Rattle.decoder.specs.Decoding.{entry, with_rd, with_rs2, jumps, branches, loads, stores, immediate_operations, shifts, base_operations, alternate_operations, multiplications, operations, decoded_immediate_operation, decoded_fence, decoded_system, decoded_at, decoded}
use Rattle.decoder.specs.declared.instr.Instr.{Instr}
use Rattle.decoder.specs.declared.instr.Instr.TheVariants.{Lui, Auipc, Jal, Slli, Srli, Srai, Ecall, Ebreak}
use Rattle.disassembler.specs.Operands.{operand_text}
use Rattle.disassembler.specs.Instructions.{instruction_text}
use Rattle.disassembler.specs.Texts.{text_from, text_of}
use Rattle.disassembler.proofs.Numerals.{hexadecimal_back}
use Rattle.disassembler.proofs.Assembling.{assembled, registers_back, shift_back, immediate_back, indirect_form, store_back, branch_back, jump_back, upper_back, fence_back}

-- the text of a word with this instruction or none gives the word back
abbrev Reads : (address w : ℕ) → Option Instr → Type 0
Reads address w instr = assembled address (text_from address w instr) ≡ w

chosen : {A : Type 0} (P : A → Type 0) (b : Bool) (x y : A) → (b ≡ true → P x) → (b ≡ false → P y) → P (if b then x else y)
chosen P true x y passed failed = passed refl
chosen P false x y passed failed = failed refl

-- by the first row that has the code
if_code : {A : Type 0} (P : A → Type 0) (code row : ℕ) (x y : A) → (code ≡ row → P x) → P y → P (if code == row then x else y)
if_code P code row x y here others = chosen P (code == row) x y (λ e. here (eqb-true code row e)) (λ e. others)

-- what holds of each row of a table at its code
abbrev Each : {A : Type 0} → (Option Instr → Type 0) → (A → Instr) → ℕ → List (ℕ × A) → Type 0
Each P make code [] = Unit {0}
Each P make code (row ∷ rows) = (code ≡ row.0 → P (Some (make row.1))) × Each P make code rows

each_entry : {A : Type 0} (P : Option Instr → Type 0) (make : A → Instr) (code : ℕ) (rows : List (ℕ × A)) → Each P make code rows → P None → P (option_map make (entry rows code))
each_entry P make code [] each none = none
each_entry P make code (row ∷ rows) each none =
    if_code (λ found. P (option_map make found)) code row.0 (Some row.1) (entry rows code) each.0 (each_entry P make code rows each.1 none)

none_back : (address w : ℕ) → w < 2 ^ 32 → Reads address w None
none_back address w small = hexadecimal_back 8 w small

-- the makers of a table's rows, as the decoder applies them
abbrev of_rd : (w third : ℕ) → (ℕ → ℕ → ℕ → Instr) → Instr
of_rd w third make = make (bits w 7 5) (bits w 15 5) third

abbrev of_rs2 : (w offset : ℕ) → (ℕ → ℕ → ℕ → Instr) → Instr
of_rs2 w offset make = make (bits w 15 5) (bits w 20 5) offset

jumps_back : (address w : ℕ) → w < 2 ^ 32 → bits w 0 7 ≡ 0b1100111 → Reads address w (with_rd jumps w (i_immediate w))
unfolding instruction_text operand_text
jumps_back address w small e =
    each_entry (Reads address w) (of_rd w (i_immediate w)) (bits w 12 3) jumps
    (indirect_form w small e, tt) (none_back address w small)

branches_back : (address w : ℕ) → w < 2 ^ 32 → bits w 0 7 ≡ 0b1100011 → Reads address w (with_rs2 branches w (b_immediate w))
unfolding instruction_text operand_text
branches_back address w small e =
    each_entry (Reads address w) (of_rs2 w (b_immediate w)) (bits w 12 3) branches
    (branch_back address w small e, (branch_back address w small e, (branch_back address w small e, (branch_back address w small e, (branch_back address w small e, (branch_back address w small e, tt)))))) (none_back address w small)

loads_back : (address w : ℕ) → w < 2 ^ 32 → bits w 0 7 ≡ 0b0000011 → Reads address w (with_rd loads w (i_immediate w))
unfolding instruction_text operand_text
loads_back address w small e =
    each_entry (Reads address w) (of_rd w (i_immediate w)) (bits w 12 3) loads
    (indirect_form w small e, (indirect_form w small e, (indirect_form w small e, (indirect_form w small e, (indirect_form w small e, tt))))) (none_back address w small)

stores_back : (address w : ℕ) → w < 2 ^ 32 → bits w 0 7 ≡ 0b0100011 → Reads address w (with_rs2 stores w (s_immediate w))
unfolding instruction_text operand_text
stores_back address w small e =
    each_entry (Reads address w) (of_rs2 w (s_immediate w)) (bits w 12 3) stores
    (store_back w small e, (store_back w small e, (store_back w small e, tt))) (none_back address w small)

base_operations_back : (address w : ℕ) → w < 2 ^ 32 → bits w 0 7 ≡ 0b0110011 → bits w 25 7 ≡ 0b0000000 → Reads address w (with_rd base_operations w (bits w 20 5))
unfolding instruction_text operand_text
base_operations_back address w small e e7 =
    each_entry (Reads address w) (of_rd w (bits w 20 5)) (bits w 12 3) base_operations
    (registers_back w small e e7, (registers_back w small e e7, (registers_back w small e e7, (registers_back w small e e7, (registers_back w small e e7, (registers_back w small e e7, (registers_back w small e e7, (registers_back w small e e7, tt)))))))) (none_back address w small)

alternate_operations_back : (address w : ℕ) → w < 2 ^ 32 → bits w 0 7 ≡ 0b0110011 → bits w 25 7 ≡ 0b0100000 → Reads address w (with_rd alternate_operations w (bits w 20 5))
unfolding instruction_text operand_text
alternate_operations_back address w small e e7 =
    each_entry (Reads address w) (of_rd w (bits w 20 5)) (bits w 12 3) alternate_operations
    (registers_back w small e e7, (registers_back w small e e7, tt)) (none_back address w small)

multiplications_back : (address w : ℕ) → w < 2 ^ 32 → bits w 0 7 ≡ 0b0110011 → bits w 25 7 ≡ 0b0000001 → Reads address w (with_rd multiplications w (bits w 20 5))
unfolding instruction_text operand_text
multiplications_back address w small e e7 =
    each_entry (Reads address w) (of_rd w (bits w 20 5)) (bits w 12 3) multiplications
    (registers_back w small e e7, (registers_back w small e e7, (registers_back w small e e7, (registers_back w small e e7, (registers_back w small e e7, (registers_back w small e e7, (registers_back w small e e7, (registers_back w small e e7, tt)))))))) (none_back address w small)

-- a table that a test on the word chooses
if_rows : (P : Option Instr → Type 0) (code row : ℕ) (make : List (ℕ × (ℕ → ℕ → ℕ → Instr)) → Option Instr) (xs ys : List (ℕ × (ℕ → ℕ → ℕ → Instr))) → (code ≡ row → P (make xs)) → P (make ys) → P (make (if code == row then xs else ys))
if_rows P code row make xs ys = if_code (λ rows. P (make rows)) code row xs ys

operations_back : (address w : ℕ) → w < 2 ^ 32 → bits w 0 7 ≡ 0b0110011 → Reads address w (with_rd (operations (bits w 25 7)) w (bits w 20 5))
operations_back address w small e =
    let P : Option Instr → Type 0 = Reads address w in
    let make : List (ℕ × (ℕ → ℕ → ℕ → Instr)) → Option Instr = λ rows. with_rd rows w (bits w 20 5) in
    let code = bits w 25 7 in
    if_rows P code 0b0000000 make base_operations _ (base_operations_back address w small e)
    (if_rows P code 0b0100000 make alternate_operations _ (alternate_operations_back address w small e)
    (if_rows P code 0b0000001 make multiplications [] (multiplications_back address w small e) (none_back address w small)))

plain_shifts : (address w : ℕ) → w < 2 ^ 32 → bits w 0 7 ≡ 0b0010011 → bits w 25 7 ≡ 0b0000000 → Reads address w (with_rd ((0b001, Slli) ∷ (0b101, Srli) ∷ []) w (bits w 20 5))
unfolding instruction_text operand_text
plain_shifts address w small e e7 =
    each_entry (Reads address w) (of_rd w (bits w 20 5)) (bits w 12 3) ((0b001, Slli) ∷ (0b101, Srli) ∷ [])
    (shift_back w small e e7, (shift_back w small e e7, tt)) (none_back address w small)

arithmetic_shifts : (address w : ℕ) → w < 2 ^ 32 → bits w 0 7 ≡ 0b0010011 → bits w 25 7 ≡ 0b0100000 → Reads address w (with_rd ((0b101, Srai) ∷ []) w (bits w 20 5))
unfolding instruction_text operand_text
arithmetic_shifts address w small e e7 =
    each_entry (Reads address w) (of_rd w (bits w 20 5)) (bits w 12 3) ((0b101, Srai) ∷ [])
    (shift_back w small e e7, tt) (none_back address w small)

shifts_back : (address w : ℕ) → w < 2 ^ 32 → bits w 0 7 ≡ 0b0010011 → Reads address w (with_rd (shifts (bits w 25 7)) w (bits w 20 5))
shifts_back address w small e =
    let P : Option Instr → Type 0 = Reads address w in
    let make : List (ℕ × (ℕ → ℕ → ℕ → Instr)) → Option Instr = λ rows. with_rd rows w (bits w 20 5) in
    if_rows P (bits w 25 7) 0b0000000 make ((0b001, Slli) ∷ (0b101, Srli) ∷ []) _ (plain_shifts address w small e)
    (if_rows P (bits w 25 7) 0b0100000 make ((0b101, Srai) ∷ []) [] (arithmetic_shifts address w small e) (none_back address w small))

immediate_operations_back : (address w : ℕ) → w < 2 ^ 32 → bits w 0 7 ≡ 0b0010011 → Reads address w (decoded_immediate_operation w)
unfolding instruction_text operand_text
immediate_operations_back address w small e =
    let shifted : Option Instr = with_rd (shifts (bits w 25 7)) w (bits w 20 5) in
    each_entry (λ found. Reads address w (option_or found shifted)) (of_rd w (i_immediate w)) (bits w 12 3) immediate_operations
    (immediate_back w small e, (immediate_back w small e, (immediate_back w small e, (immediate_back w small e, (immediate_back w small e, (immediate_back w small e, tt)))))) (shifts_back address w small e)

fences_back : (address w : ℕ) → w < 2 ^ 32 → bits w 0 7 ≡ 0b0001111 → Reads address w (decoded_fence w)
unfolding instruction_text operand_text
fences_back address w small e =
    if_code (Reads address w) (bits w 12 3) 0b000 _ None (fence_back w small e) (none_back address w small)

system_back : (address w : ℕ) → w < 2 ^ 32 → Reads address w (decoded_system w)
unfolding instruction_text
system_back address w small =
    if_code (Reads address w) w 0x00000073 (Some Ecall) _ (λ e. sym e)
    (if_code (Reads address w) w 0x00100073 (Some Ebreak) None (λ e. sym e) (none_back address w small))

upper_instrs_back : (address w : ℕ) → w < 2 ^ 32 → (bits w 0 7 ≡ 0b0110111 → Reads address w (Some (Lui (bits w 7 5) (u_immediate w)))) × (bits w 0 7 ≡ 0b0010111 → Reads address w (Some (Auipc (bits w 7 5) (u_immediate w)))) × (bits w 0 7 ≡ 0b1101111 → Reads address w (Some (Jal (bits w 7 5) (j_immediate w))))
unfolding instruction_text operand_text
upper_instrs_back address w small = (upper_back w small, upper_back w small, jump_back address w small)

decoded_back : (address w : ℕ) → w < 2 ^ 32 → Reads address w (decoded_at (bits w 0 7) w)
decoded_back address w small =
    let P : Option Instr → Type 0 = Reads address w in
    let opcode : ℕ = bits w 0 7 in
    let upper = upper_instrs_back address w small in
    if_code P opcode 0b0110111 _ _ upper.0
    (if_code P opcode 0b0010111 _ _ upper.1
    (if_code P opcode 0b1101111 _ _ upper.2
    (if_code P opcode 0b1100111 _ _ (jumps_back address w small)
    (if_code P opcode 0b1100011 _ _ (branches_back address w small)
    (if_code P opcode 0b0000011 _ _ (loads_back address w small)
    (if_code P opcode 0b0100011 _ _ (stores_back address w small)
    (if_code P opcode 0b0010011 _ _ (immediate_operations_back address w small)
    (if_code P opcode 0b0110011 _ _ (operations_back address w small)
    (if_code P opcode 0b0001111 _ _ (fences_back address w small)
    (if_code P opcode 0b1110011 _ None (λ e. system_back address w small) (none_back address w small)))))))))))

-- the word is put together again from its text
pub assembled-text_of : (address w : ℕ) → w < 2 ^ 32 → assembled address (text_of address w) ≡ w
unfolding text_of decoded
assembled-text_of address w small = decoded_back address w small

pub text_of-injective : (address a b : ℕ) → a < 2 ^ 32 → b < 2 ^ 32 → text_of address a ≡ text_of address b → a ≡ b
text_of-injective address a b small_a small_b same =
    sym (assembled-text_of address a small_a) ∙ ap (assembled address) same ∙ assembled-text_of address b small_b
