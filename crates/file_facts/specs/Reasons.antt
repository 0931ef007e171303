-- Why a file is refused as a program, in words.
use Rattle.std.specs.Prelude.{ℕ, ◌/◌, ◌%◌, ◌==◌, ◌&&◌, true, false, not, nat_eq, Bool, if◌then◌else◌, List, ◌++◌, codes}
use Rattle.std.specs.List.{starts_with}
use Rattle.elf32_reader.specs.declared.fault.ElfFault.{ElfFault}
use Rattle.elf32_reader.specs.declared.fault.ElfFault.TheVariants.{TooLarge, Truncated, NotElf, NotClass32, NotLittleEndian, BadVersion, NotExec, NotRiscV, BadFlags, BadHeaderSize, TooManySegments, TableOutside, Interpreter, SegmentSizes, SegmentOutsideFile, SegmentOutsideWindow, WritableCode, SegmentOrder, TooManyPages, BadEntry, OutOfMemory}
use Rattle.file_facts.specs.Fields.{word_at}
use Rattle.file_facts.specs.Format.{ef_riscv_float_abi, ef_riscv_rvc, ef_riscv_rve, em_riscv, magic}
use Rattle.file_facts.specs.Header.{is_elf, is_elf32, machine_of, machine_text}
use Rattle.file_facts.specs.Segments.{has_flag}

-- the fault is one of a file for another machine: that it is no executable file is so only for another machine than RISC-V
abbrev pub is_of_machine : (is_riscv : Bool) → ElfFault → Bool
is_of_machine is_riscv NotClass32 = true
is_of_machine is_riscv NotLittleEndian = true
is_of_machine is_riscv NotRiscV = true
is_of_machine is_riscv NotExec = not is_riscv
is_of_machine is_riscv other = false

-- the reason is the machine, which the file names
unfoldable pub names_machine : List ℕ → ElfFault → Bool
names_machine file fault = is_elf file && is_of_machine (machine_of file == em_riscv) fault

-- why a file with these flags is refused (RISC-V ELF psABI, File Header)
abbrev pub flags_reason : ℕ → List ℕ
flags_reason flags =
    if has_flag flags ef_riscv_rvc then codes "has compressed instructions"
    else if not (flags / ef_riscv_float_abi % 4 == 0) then codes "passes floats in registers"
    else if has_flag flags ef_riscv_rve then codes "has half of the registers (RV32E)" else codes "has flags of another machine"

-- the flags of a file that has them
abbrev pub flags_of : List ℕ → ℕ
flags_of file = if is_elf32 file then word_at file 36 else 0

-- why a file without a whole header is refused
abbrev pub truncated_reason : List ℕ → List ℕ
truncated_reason file = if starts_with nat_eq file magic then codes "is cut off" else codes "is no ELF file"

-- any other reason
abbrev pub reason_of : List ℕ → ElfFault → List ℕ
reason_of file TooLarge = codes "has over 67108864 bytes"
reason_of file Truncated = truncated_reason file
reason_of file NotElf = codes "is no ELF file"
reason_of file NotClass32 = codes "is for another machine"
reason_of file NotLittleEndian = codes "is for another machine"
reason_of file BadVersion = codes "is of an unknown version of ELF"
reason_of file NotExec = codes "is no executable file"
reason_of file NotRiscV = codes "is for another machine"
reason_of file BadFlags = flags_reason (flags_of file)
reason_of file BadHeaderSize = codes "has headers of another size"
reason_of file TooManySegments = codes "has over 64 program headers"
reason_of file TableOutside = codes "is cut off"
reason_of file Interpreter = codes "is linked dynamically"
reason_of file SegmentSizes = codes "has a segment with more bytes than memory"
reason_of file SegmentOutsideFile = codes "is cut off"
reason_of file SegmentOutsideWindow = codes "has a segment outside of 00010000 to 20000000"
reason_of file WritableCode = codes "has a segment that is both writable and executable"
reason_of file SegmentOrder = codes "has two segments on one page, or a segment below the one before it"
reason_of file TooManyPages = codes "has over 16384 pages"
reason_of file BadEntry = codes "begins outside of its code, or at an address that is no multiple of 4"
reason_of file OutOfMemory = codes "takes more memory than there is"

-- what to do, by whether the reason is the machine
abbrev pub compile_text : List ℕ
compile_text = codes ": compile for RV32IM: guest/dthreads-cc, or -march=rv32im -mabi=ilp32"

abbrev pub link_text : List ℕ
link_text = codes ": link it with guest/dthreads-cc"

abbrev pub hint_of : Bool → ElfFault → List ℕ
hint_of true fault = compile_text
hint_of false BadFlags = compile_text
hint_of false NotExec = link_text
hint_of false Interpreter = link_text
hint_of false SegmentOutsideWindow = link_text
hint_of false WritableCode = link_text
hint_of false SegmentOrder = link_text
hint_of false BadEntry = link_text
hint_of false other = codes ""

-- the reason itself
unfoldable pub cause_text : List ℕ → ElfFault → List ℕ
cause_text file fault = if names_machine file fault then codes "is for " ++ machine_text file else reason_of file fault

-- a sentence: why a file is refused so, and what to do
unfoldable pub reason_text : List ℕ → ElfFault → List ℕ
reason_text file fault = codes "the file " ++ cause_text file fault ++ hint_of (names_machine file fault) fault
