-- Out of memory is none of the refusals.
use Rattle.std.proofs.Common.{◌≡◌, ℕ, zero, suc, ◌+◌, Bool, true, false, cond, Some, List, [], ◌∷◌, ◌++◌, refl}
use Rattle.std.proofs.lemmas.Bool.{and_parts, false≢true}
use Rattle.std.specs.Prelude.{nat_lt}
use Rattle.std.specs.List.{flat_map, list_all, range_with_len}
use Rattle.std.proofs.lemmas.List.Folds.{list_all-append}
use Rattle.elf32_reader.specs.declared.fault.ElfFault.{ElfFault}
use Rattle.elf32_reader.specs.declared.fault.ElfFault.TheVariants.{OutOfMemory}
use Rattle.elf32_reader.specs.Faults.{number_of}
use Rattle.elf32_reader.specs.Fields.{file_header}
use Rattle.elf32_reader.specs.Segments.{image_of}
use Rattle.elf32_reader.specs.Refusals.{Refusal, first_applying, size_refusals, ident_refusals, header_refusals, file_refusals, row_refusals, table_refusals, image_refusals, refusals_of, first_refusal}

-- whether a refusal has a number below that of OutOfMemory
abbrev is_numbered : Refusal → Bool
is_numbered refusal = nat_lt (number_of refusal.0) 21

first_numbered : (refusals : List Refusal) (fault : ElfFault) → list_all is_numbered refusals ≡ true → first_applying refusals ≡ Some fault → nat_lt (number_of fault) 21 ≡ true
unfolding first_applying
first_numbered [] fault all first = absurd cc
first_numbered (x ∷ refusals) fault all first =
    elim x.1 as (λ b. (cond b (Some x.0) (first_applying refusals) ≡ Some fault) → nat_lt (number_of fault) 21 ≡ true) [
      | true ↦ λ here. let same : x.0 ≡ fault = cc in rw (← same) (and_parts (is_numbered x) (list_all is_numbered refusals) all).0
      | false ↦ λ later. first_numbered refusals fault (and_parts (is_numbered x) (list_all is_numbered refusals) all).1 later
    ]
    first

all_of_both : (xs ys : List Refusal) → list_all is_numbered xs ≡ true → list_all is_numbered ys ≡ true → list_all is_numbered (xs ++ ys) ≡ true
all_of_both xs ys first second = rw (list_all-append is_numbered xs ys, first, second) refl

all_of_rows : (file : List ℕ) (start count : ℕ) → list_all is_numbered (flat_map (row_refusals file) (range_with_len start count)) ≡ true
unfolding row_refusals
all_of_rows file start zero = refl
all_of_rows file start (suc count) =
    all_of_both (row_refusals file start) (flat_map (row_refusals file) (range_with_len (start + 1) count)) refl (all_of_rows file (start + 1) count)

-- a file's first refusal isn't out of memory
pub memory_apart : (file : List ℕ) → first_refusal file ≡ Some OutOfMemory → ⊥
unfolding first_refusal table_refusals file_refusals size_refusals ident_refusals header_refusals image_refusals
memory_apart file first =
    let header = all_of_both (size_refusals file) (ident_refusals file ++ header_refusals file) refl (all_of_both (ident_refusals file) (header_refusals file) refl refl) in
    let table = all_of_rows file 0 (file_header file).e_phnum in
    let after = all_of_both (table_refusals file (file_header file).e_phnum) (image_refusals (image_of file)) table refl in
    let numbered : nat_lt (number_of OutOfMemory) 21 ≡ true = first_numbered (refusals_of file) OutOfMemory (all_of_both (file_refusals file) (table_refusals file (file_header file).e_phnum ++ image_refusals (image_of file)) header after) first in
    false≢true numbered
