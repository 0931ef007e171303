-- The numbers that an ELF file is told by, under the standard's names.
use Rattle.std.specs.Prelude.{ℕ, List, [], ◌∷◌}

-- the bytes with which each ELF file begins, and how many bytes of its header all classes share up to the machine (System V ABI, ELF
-- Identification, ELF Header)
abbrev pub magic : List ℕ
magic = 0x7F ∷ 0x45 ∷ 0x4C ∷ 0x46 ∷ []

abbrev pub shared_size : ℕ
shared_size = 20

-- 32-bit and 64-bit addresses (EI_CLASS), the lowest and the highest byte first (EI_DATA)
abbrev pub elfclass32 : ℕ
elfclass32 = 1

abbrev pub elfclass64 : ℕ
elfclass64 = 2

abbrev pub elfdata2lsb : ℕ
elfdata2lsb = 1

abbrev pub elfdata2msb : ℕ
elfdata2msb = 2

-- the bytes of a header, a program header and a section header of 32 bits
abbrev pub header_size : ℕ
header_size = 52

abbrev pub program_header_size : ℕ
program_header_size = 32

abbrev pub section_header_size : ℕ
section_header_size = 40

-- the bytes of a symbol of 32 bits (System V ABI, Symbol Table)
abbrev pub symbol_size : ℕ
symbol_size = 16

-- segments to be loaded (Program Header: p_type), and what they permit (Segment Permissions)
abbrev pub pt_load : ℕ
pt_load = 1

abbrev pub pf_x : ℕ
pf_x = 1

abbrev pub pf_w : ℕ
pf_w = 2

abbrev pub pf_r : ℕ
pf_r = 4

-- a section that is a symbol table (Section Header: sh_type)
abbrev pub sht_symtab : ℕ
sht_symtab = 2

-- the machine RISC-V, and flags of its files: compressed instructions, how floats are passed (2 bits), and half of the registers (RISC-V
-- ELF psABI, File Header)
abbrev pub em_riscv : ℕ
em_riscv = 243

abbrev pub ef_riscv_rvc : ℕ
ef_riscv_rvc = 1

abbrev pub ef_riscv_float_abi : ℕ
ef_riscv_float_abi = 2

abbrev pub ef_riscv_rve : ℕ
ef_riscv_rve = 8
