-- The text of a file.
use Rattle.std.specs.Prelude.{ℕ, if◌then◌else◌, Option, Some, None, List, [], ◌++◌, codes}
use Rattle.elf32_reader.specs.declared.fault.ElfFault.{ElfFault}
use Rattle.text_output.specs.Digits.{hexadecimal}
use Rattle.file_facts.specs.Fields.{word_at}
use Rattle.file_facts.specs.Header.{header_text, is_elf, is_elf32}
use Rattle.file_facts.specs.Reasons.{reason_text}
use Rattle.file_facts.specs.Sections.{sections_text}
use Rattle.file_facts.specs.Segments.{segments_text}

-- the lines of the flags and the entry of a file of 32 bits (System V ABI, ELF Header: e_flags, e_entry)
unfoldable pub fields_text : List ℕ → List ℕ
fields_text file =
    codes "flags: " ++ hexadecimal 8 (word_at file 36) ++ codes "\nentry: " ++ hexadecimal 8 (word_at file 24) ++ codes "\n"

-- the lines of a file of 32 bits
unfoldable pub parts_text : List ℕ → List ℕ
parts_text file = fields_text file ++ segments_text file ++ sections_text file

-- what is told of an ELF file, and more of one of 32 bits
unfoldable pub known_text : List ℕ → List ℕ
known_text file = if is_elf file then header_text file else []

unfoldable pub details_text : List ℕ → List ℕ
details_text file = if is_elf32 file then parts_text file else []

-- whether it is refused as a program
abbrev pub verdict_text : List ℕ → Option ElfFault → List ℕ
verdict_text file None = codes "dthreads runs it\n"
verdict_text file (Some fault) = codes "refused: " ++ reason_text file fault ++ codes "\n"

-- the text of a file that is refused so, or isn't
unfoldable pub facts_of : List ℕ → Option ElfFault → List ℕ
facts_of file refusal = known_text file ++ details_text file ++ verdict_text file refusal
