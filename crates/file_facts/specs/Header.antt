-- The header of a file of any class (System V ABI, ELF Header).
use Rattle.std.specs.Prelude.{ℕ, ◌==◌, ◌&&◌, nat_eq, nat_le, Bool, if◌then◌else◌, List, ◌++◌, codes, decimal, length, slice_index}
use Rattle.std.specs.List.{starts_with}
use Rattle.file_facts.specs.Fields.{big_half_at, half_at}
use Rattle.file_facts.specs.Format.{elfclass32, elfclass64, elfdata2lsb, elfdata2msb, em_riscv, header_size, magic, shared_size}
use Rattle.file_facts.specs.Names.{class_name, data_name, machine_name, type_name}

-- an ELF file, of which all that classes share up to the machine is there
abbrev pub is_elf : List ℕ → Bool
is_elf file = starts_with nat_eq file magic && nat_le shared_size (length file)

abbrev pub class_of : List ℕ → ℕ
class_of file = slice_index file 4

abbrev pub data_of : List ℕ → ℕ
data_of file = slice_index file 5

-- a field of 2 bytes, in the file's own order
unfoldable pub own_half_at : List ℕ → ℕ → ℕ
own_half_at file offset = if data_of file == elfdata2msb then big_half_at file offset else half_at file offset

abbrev pub type_of : List ℕ → ℕ
type_of file = own_half_at file 16

abbrev pub machine_of : List ℕ → ℕ
machine_of file = own_half_at file 18

-- an ELF file of 32 bits, the lowest byte first, with a whole header
abbrev pub is_elf32 : List ℕ → Bool
is_elf32 file = is_elf file && nat_le header_size (length file) && class_of file == elfclass32 && data_of file == elfdata2lsb

-- which RISC-V a file is for
abbrev pub width_text : (class encoding machine : ℕ) → List ℕ
width_text class encoding machine =
    if machine == em_riscv && class == elfclass64 then codes "64-bit " else if machine == em_riscv && encoding == elfdata2msb then codes "big-endian "
    else codes ""

-- the machine of a file
unfoldable pub machine_text : List ℕ → List ℕ
machine_text file =
    width_text (class_of file) (data_of file) (machine_of file) ++ machine_name (machine_of file) ++ codes " (machine " ++ decimal (machine_of file)
    ++ codes ")"

-- the line of an ELF file
unfoldable pub header_text : List ℕ → List ℕ
header_text file =
    codes "file: " ++ class_name (class_of file) ++ codes ", " ++ data_name (data_of file) ++ codes ", " ++ type_name (type_of file) ++ codes ", for "
    ++ machine_text file ++ codes "\n"
