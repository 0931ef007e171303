-- A core file: its header, its program headers, its notes, and the bytes of the memory.
use Rattle.std.specs.Prelude.{◌≡◌, ℕ, ◌+◌, ◌*◌, ◌^◌, ◌<◌, if◌then◌else◌, List, [], ◌∷◌, ◌++◌, length, sum_by}
use Rattle.std.specs.List.{flat_map}
use Rattle.guest_memory.specs.Memory.{Memory}
use Rattle.guest_memory.specs.declared.perm.Perm.{Perm}
use Rattle.elf32_reader.specs.Format.{header_size, program_header_size, pt_load, pf_x, pf_w, pf_r}
use Rattle.elf32_reader.specs.LoadSegment.{LoadSegment}
use Rattle.elf32_reader.specs.Segments.{segments_of}
use Rattle.core_file.specs.Fields.{elf_header, program_header_bytes, pt_note}
use Rattle.core_file.specs.Loads.{AreRunsOf}
use Rattle.core_file.specs.Notes.{notes_of}
use Rattle.core_file.specs.declared.core_thread.CoreThread.{CoreThread}
use Rattle.core_file.specs.declared.core_program_header.CoreProgramHeader.{CoreProgramHeader}

-- the flags of what a segment permits
abbrev pub flags_of : Perm → ℕ
flags_of perm = (if perm.read then pf_r else 0) + (if perm.write then pf_w else 0) + (if perm.execute then pf_x else 0)

-- the program header of the notes, which are this long and stand at an offset
abbrev pub note_header : (offset size : ℕ) → CoreProgramHeader
note_header offset size =
    record { p_type = pt_note; p_offset = offset; p_vaddr = 0; p_filesz = size; p_memsz = 0; p_flags = 0; p_align = 4 }

-- the program header of a segment whose bytes stand at an offset
abbrev pub load_header : (offset : ℕ) → LoadSegment → CoreProgramHeader
load_header offset load =
    record { p_type = pt_load; p_offset = offset; p_vaddr = load.vaddr; p_filesz = load.memsz; p_memsz = load.memsz; p_flags = flags_of load.perm; p_align = 1 }

-- the program headers of segments whose bytes stand one after the other from an offset on
unfoldable pub load_headers : (offset : ℕ) → List LoadSegment → List ℕ
load_headers offset [] = []
load_headers offset (load ∷ loads) = program_header_bytes (load_header offset load) ++ load_headers (offset + load.memsz) loads

-- where the notes begin: behind the program headers, one of the notes and one of each segment
abbrev pub notes_start : List LoadSegment → ℕ
notes_start loads = header_size + program_header_size * (length loads + 1)

-- the bytes of segments
abbrev pub bytes_of : List LoadSegment → List ℕ
bytes_of loads = flat_map (λ load. load.bytes) loads

-- all before the bytes of the segments
abbrev pub head_of : (notes : List ℕ) → List LoadSegment → List ℕ
head_of notes loads =
    elf_header (length loads + 1)
    ++ (program_header_bytes (note_header (notes_start loads) (length notes)) ++ (load_headers (notes_start loads + length notes) loads ++ notes))

-- the bytes of a core file with these notes and these segments
abbrev pub core_of : (notes : List ℕ) → List LoadSegment → List ℕ
core_of notes loads = head_of notes loads ++ bytes_of loads

-- There are fewer program headers than the number 65,535, which stands for more of them, and all offsets are 32-bit numbers.
pub record Fits (notes : List ℕ) (loads : List LoadSegment) : Type 0 where
  pub headers : length loads + 1 < 65_535
  pub size : notes_start loads + length notes + sum_by (λ load. load.memsz) loads < 2 ^ 32

-- A file is a core file of these threads and this memory: so are its notes and its segments, and the segments are what the file describes.
pub record IsCoreOf (threads : List CoreThread) (memory : Memory) (file : List ℕ) : Type 0 where
  pub loads : List LoadSegment
  pub runs : AreRunsOf memory loads
  pub bytes : file ≡ core_of (notes_of threads) loads
  pub described : segments_of file ≡ loads

-- no core file has the sizes of these threads and this memory
pub record IsTooLarge (threads : List CoreThread) (memory : Memory) : Type 0 where
  pub loads : List LoadSegment
  pub runs : AreRunsOf memory loads
  pub unfit : ¬ Fits (notes_of threads) loads
