-- What the numbers of a header are called.
use Rattle.std.specs.Prelude.{ℕ, ◌==◌, if◌then◌else◌, List, codes}

-- a class (System V ABI, ELF Identification: EI_CLASS)
abbrev pub class_name : ℕ → List ℕ
class_name class = if class == 1 then codes "ELF32" else if class == 2 then codes "ELF64" else codes "an unknown class"

-- a data encoding (EI_DATA)
abbrev pub data_name : ℕ → List ℕ
data_name encoding = if encoding == 1 then codes "little-endian" else if encoding == 2 then codes "big-endian" else codes "an unknown data encoding"

-- a type (ELF Header: e_type)
abbrev pub type_name : ℕ → List ℕ
type_name type =
    if type == 1 then codes "an object file" else if type == 2 then codes "an executable file" else if type == 3 then codes "a shared object"
    else if type == 4 then codes "a core file" else codes "an unknown type"

-- a machine (ELF Header: e_machine; those that compilers are met for)
abbrev pub machine_name : ℕ → List ℕ
machine_name machine =
    if machine == 3 then codes "x86" else if machine == 8 then codes "MIPS" else if machine == 20 then codes "PowerPC"
    else if machine == 21 then codes "64-bit PowerPC" else if machine == 22 then codes "S/390" else if machine == 40 then codes "ARM"
    else if machine == 62 then codes "x86-64" else if machine == 83 then codes "AVR" else if machine == 183 then codes "AArch64"
    else if machine == 243 then codes "RISC-V" else if machine == 247 then codes "BPF" else if machine == 258 then codes "LoongArch"
    else codes "another machine"
