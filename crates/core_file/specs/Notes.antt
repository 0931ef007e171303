-- The notes of a core file: one for each thread, with its registers.
use Rattle.std.specs.Prelude.{ℕ, List, [], ◌∷◌, ◌++◌, codes, map, replicate}
use Rattle.std.specs.List.{flat_map, range_with_len}
use Rattle.hart.specs.HartState.{HartState, register}
use Rattle.core_file.specs.Fields.{word, words}
use Rattle.core_file.specs.declared.core_thread.CoreThread.{CoreThread}

-- the type of a note with registers (Linux, elf.h), and the bytes of such a note's description (struct elf_prstatus of 32-bit RISC-V)
abbrev pub nt_prstatus : ℕ
nt_prstatus = 1

abbrev pub prstatus_size : ℕ
prstatus_size = 204

-- the registers: pc, then x1 to x31 (struct user_regs_struct of RISC-V)
abbrev pub registers_of : HartState → List ℕ
registers_of hart = hart.pc ∷ map (register hart) (range_with_len 1 31)

-- The description. Its words are zeros but for pr_cursig at 12, of which it is the lower half, pr_pid at 24, and pr_reg at 72.
unfoldable pub prstatus : CoreThread → List ℕ
prstatus thread =
    words (0 ∷ 0 ∷ 0 ∷ thread.signal ∷ 0 ∷ 0 ∷ thread.pid ∷ []) ++ (words (replicate 11 0) ++ (words (registers_of thread.hart) ++ word 0))

-- a note: the sizes of its name and its description, its type, its name with zeros up to a multiple of 4 bytes (System V ABI, Note Section)
unfoldable pub note : CoreThread → List ℕ
note thread = words (5 ∷ prstatus_size ∷ nt_prstatus ∷ []) ++ ((codes "CORE" ++ 0 ∷ 0 ∷ 0 ∷ 0 ∷ []) ++ prstatus thread)

-- the notes of threads
abbrev pub notes_of : List CoreThread → List ℕ
notes_of threads = flat_map note threads
