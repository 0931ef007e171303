-- The numbers that an ELF file is told by, under the standard's names, and how much of a file is read.
use Rattle.std.specs.Prelude.{ℕ}

-- the bytes of a header and of a program header (System V ABI, ELF Header: e_ehsize, e_phentsize)
abbrev pub header_size : ℕ
header_size = 52

abbrev pub program_header_size : ℕ
program_header_size = 32

-- 32-bit addresses, the lowest byte first, and the one version (System V ABI, ELF Identification)
abbrev pub elfclass32 : ℕ
elfclass32 = 1

abbrev pub elfdata2lsb : ℕ
elfdata2lsb = 1

abbrev pub ev_current : ℕ
ev_current = 1

-- executable files (System V ABI, ELF Header: e_type) for RISC-V (e_machine; RISC-V ELF psABI, File Header)
abbrev pub et_exec : ℕ
et_exec = 2

abbrev pub em_riscv : ℕ
em_riscv = 243

-- segments to be loaded, dynamic linking, an interpreter's name (System V ABI, Program Header: p_type)
abbrev pub pt_load : ℕ
pt_load = 1

abbrev pub pt_dynamic : ℕ
pt_dynamic = 2

abbrev pub pt_interp : ℕ
pt_interp = 3

-- executable, writable and readable segments (System V ABI, Program Header: Segment Permissions)
abbrev pub pf_x : ℕ
pf_x = 1

abbrev pub pf_w : ℕ
pf_w = 2

abbrev pub pf_r : ℕ
pf_r = 4

-- how many bytes a file has at most, and how many program headers
abbrev pub file_limit : ℕ
file_limit = 67_108_864

abbrev pub segment_limit : ℕ
segment_limit = 64
