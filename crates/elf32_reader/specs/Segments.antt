use Rattle.std.specs.Prelude.{ℕ, ◌+◌, ◌/◌, ◌%◌, Bool, ◌&&◌, ◌==◌, not, List, filter, map, slice_range}
use Rattle.std.specs.List.{range_with_len}
use Rattle.guest_memory.specs.declared.perm.Perm.{Perm}
use Rattle.elf32_reader.specs.declared.program_header.ProgramHeader.{ProgramHeader}
use Rattle.elf32_reader.specs.Format.{pt_load, pf_x, pf_w, pf_r}
use Rattle.elf32_reader.specs.Fields.{file_header, program_header}
use Rattle.elf32_reader.specs.LoadSegment.{LoadSegment}
use Rattle.elf32_reader.specs.LoadImage.{LoadImage}

-- whether one flag, a power of two, is among flags
abbrev pub has_flag : ℕ → ℕ → Bool
has_flag flags flag = flags / flag % 2 == 1

-- what the flags of a program header permit
abbrev pub perm_of : ℕ → Perm
perm_of flags =
    record { read = has_flag flags pf_r; write = has_flag flags pf_w; execute = has_flag flags pf_x }

abbrev pub is_load : ProgramHeader → Bool
is_load header = header.p_type == pt_load

-- whether a program header describes a segment: others, and those with no byte in memory, are ignored
abbrev pub is_segment : ProgramHeader → Bool
is_segment header = is_load header && not (header.p_memsz == 0)

-- the segment that a program header describes
abbrev pub segment_of : List ℕ → ProgramHeader → LoadSegment
segment_of file header =
    record {
      vaddr = header.p_vaddr;
      memsz = header.p_memsz;
      perm = perm_of header.p_flags;
      bytes = slice_range file header.p_offset (header.p_offset + header.p_filesz);
    }

-- the segments of a file's first count program headers
unfoldable pub segments_before : List ℕ → ℕ → List LoadSegment
segments_before file count =
    map (segment_of file) (filter is_segment (map (program_header file) (range_with_len 0 count)))

-- the segments of a file
abbrev pub segments_of : List ℕ → List LoadSegment
segments_of file = segments_before file (file_header file).e_phnum

-- the image that a file describes: its entry and its segments
abbrev pub image_of : List ℕ → LoadImage
image_of file = record { entry = (file_header file).e_entry; segments = segments_of file }
