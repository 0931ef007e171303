-- What a word is that is no instruction of RV32IM (RISC-V Unprivileged ISA, chapter 24; Privileged Architecture, chapter 2).
use Rattle.std.specs.Prelude.{ℕ, ◌/◌, ◌%◌, ◌^◌, ◌==◌, not, if◌then◌else◌, List, codes}

-- the fields by which words are told apart
abbrev pub opcode_of : ℕ → ℕ
opcode_of word = word % 128

abbrev pub funct3_of : ℕ → ℕ
funct3_of word = word / 4096 % 8

abbrev pub funct5_of : ℕ → ℕ
funct5_of word = word / 134217728 % 32

-- an atomic instruction on words
abbrev pub atomic_name : ℕ → List ℕ
atomic_name funct5 =
    if funct5 == 0 then codes "amoadd.w, of the A extension" else if funct5 == 1 then codes "amoswap.w, of the A extension"
    else if funct5 == 2 then codes "lr.w, of the A extension" else if funct5 == 3 then codes "sc.w, of the A extension"
    else if funct5 == 4 then codes "amoxor.w, of the A extension" else if funct5 == 8 then codes "amoor.w, of the A extension"
    else if funct5 == 12 then codes "amoand.w, of the A extension" else if funct5 == 16 then codes "amomin.w, of the A extension"
    else if funct5 == 20 then codes "amomax.w, of the A extension" else if funct5 == 24 then codes "amominu.w, of the A extension"
    else if funct5 == 28 then codes "amomaxu.w, of the A extension" else codes "no instruction of RV32IM"

-- an instruction of the system
abbrev pub system_name : ℕ → List ℕ
system_name funct3 =
    if funct3 == 0 then codes "an instruction of the privileged architecture" else if funct3 == 1 then codes "csrrw, of the Zicsr extension"
    else if funct3 == 2 then codes "csrrs, of the Zicsr extension" else if funct3 == 3 then codes "csrrc, of the Zicsr extension"
    else if funct3 == 5 then codes "csrrwi, of the Zicsr extension" else if funct3 == 6 then codes "csrrsi, of the Zicsr extension"
    else if funct3 == 7 then codes "csrrci, of the Zicsr extension" else codes "no instruction of RV32IM"

-- a load or a store of floats
abbrev pub float_name : ℕ → List ℕ
float_name funct3 =
    if funct3 == 2 then codes "a load or store of the F extension" else if funct3 == 3 then codes "a load or store of the D extension"
    else codes "an instruction of the V extension"

-- a word of 32 bits
abbrev pub long_name : (opcode funct3 funct5 : ℕ) → List ℕ
long_name opcode funct3 funct5 =
    if opcode == 0x2F then (if funct3 == 2 then atomic_name funct5 else codes "no instruction of RV32IM") else if opcode == 0x73 then system_name funct3
    else if opcode == 0x07 then float_name funct3 else if opcode == 0x27 then float_name funct3
    else if opcode == 0x53 then codes "an instruction of the F or D extension" else if opcode == 0x57 then codes "an instruction of the V extension"
    else if opcode == 0x0F then codes "fence.i, of the Zifencei extension" else codes "no instruction of RV32IM"

-- any word: the lowest two bits of a compressed instruction aren't both set, and zeros are no instruction
abbrev pub word_name : ℕ → List ℕ
word_name word =
    if word == 0 then codes "no instruction: zeros" else if not (word % 4 == 3) then codes "a compressed instruction, of the C extension"
    else long_name (opcode_of word) (funct3_of word) (funct5_of word)
