-- What holds of a program header that isn't refused, and of an image that isn't.
use Rattle.std.proofs.Common.{◌≡◌, ℕ, zero, suc, ◌+◌, ◌-◌, ◌<◌, ◌≤◌, Bool, true, false, cond, ◌&&◌, Option, Some, None, List, [], ◌∷◌, ◌++◌, length, drop, refl, ap, ◌∙◌, arith, add-one}
use Rattle.std.proofs.lemmas.List.{append-nil, length-take}
use Rattle.std.specs.Prelude.{nat_le, option_map, MatchOption}
use Rattle.std.specs.Option.{option_map_or}
use Rattle.std.specs.List.{last_or}
use Rattle.std.proofs.lemmas.Bool.Decides.{nat_tests}
use Rattle.elf32_reader.specs.declared.file_header.FileHeader.{FileHeader}
use Rattle.elf32_reader.specs.declared.program_header.ProgramHeader.{ProgramHeader}
use Rattle.elf32_reader.specs.Fields.{file_header, program_header}
use Rattle.elf32_reader.specs.LoadSegment.{LoadSegment, IsLoadable, first_page, last_page}
use Rattle.elf32_reader.specs.LoadImage.{AreOrdered, IsSound, LoadImage}
use Rattle.elf32_reader.specs.Segments.{is_segment, segment_of, segments_before, segments_of, image_of}
use Rattle.elf32_reader.specs.Refusals.{first_applying, program_refusals, row_refusals, table_refusals, image_refusals}
use Rattle.elf32_reader.proofs.Rows.{none_of_cons, none_of_both, segments_before-more, table_refusals-more}

-- what holds of a program header that describes a segment and isn't refused
pub record IsAccepted (file : List ℕ) (before : Option ℕ) (header : ProgramHeader) : Type 0 where
  pub within : header.p_offset + header.p_filesz ≤ length file
  pub loadable : IsLoadable (segment_of file header)
  pub above : MatchOption before (Unit {0}) (λ page. page < first_page (segment_of file header))

-- what the test of the order tells
above_page : (tested : Bool) (before : Option ℕ) (first : ℕ) → tested ≡ true → (tested && option_map_or (λ page. nat_le first page) before false) ≡ false → MatchOption before (Unit {0}) (λ page. page < first)
above_page tested None first test order = tt
above_page tested (Some page) first test order = grind (arith, nat_tests)

pub accepted : (file : List ℕ) (before : Option ℕ) (header : ProgramHeader) → is_segment header ≡ true → first_applying (program_refusals file before header) ≡ None → IsAccepted file before header
accepted file before header segment none =
    let interpreter = none_of_cons _ _ _ none in
    let sizes = none_of_cons _ _ _ interpreter.1 in
    let within = none_of_cons _ _ _ sizes.1 in
    let window = none_of_cons _ _ _ within.1 in
    let code = none_of_cons _ _ _ window.1 in
    let order = none_of_cons _ _ _ code.1 in
    record {
      within = grind (arith, nat_tests, segment, within.0);
      loadable =
          record {
            not_empty = grind (arith, nat_tests, segment);
            sizes =
                let short : header.p_filesz ≤ header.p_memsz = grind (arith, nat_tests, segment, sizes.0) in
                omega (arith, length-take (header.p_offset + header.p_filesz - header.p_offset) (drop header.p_offset file));
            above = grind (arith, nat_tests, segment, window.0);
            below = grind (arith, nat_tests, segment, window.0);
            no_writable_code = grind (arith, nat_tests, segment, code.0);
          };
      above = above_page (is_segment header) before (first_page (segment_of file header)) segment order.0;
    }

-- of the program header with a number
pub row_accepted : (file : List ℕ) (row : ℕ) → is_segment (program_header file row) ≡ true → first_applying (row_refusals file row) ≡ None → IsAccepted file (option_map last_page (last_or None (segments_before file row))) (program_header file row)
unfolding row_refusals
row_accepted file row describes none = accepted file _ (program_header file row) describes none

-- a loadable segment on pages above those of the last one
AreOrdered-push : (segments : List LoadSegment) (next : LoadSegment) → AreOrdered segments → IsLoadable next → MatchOption (option_map last_page (last_or None segments)) (Unit {0}) (λ page. page < first_page next) → AreOrdered (segments ++ next ∷ [])
AreOrdered-push [] next ordered loadable above = loadable
AreOrdered-push (x ∷ []) next ordered loadable above = (ordered, above, loadable)
AreOrdered-push (x ∷ y ∷ segments) next ordered loadable above =
    (ordered.0, ordered.1, AreOrdered-push (y ∷ segments) next ordered.2 loadable above)

-- the segments of program headers that aren't refused are in order
pub segments_ordered : (file : List ℕ) (n : ℕ) → first_applying (table_refusals file n) ≡ None → AreOrdered (segments_before file n)
segments_ordered file zero none = unfold segments_before in tt
segments_ordered file (suc n) none =
    let both = none_of_both (table_refusals file n) (row_refusals file n) (rw table_refusals-more at none) in
    let ordered : AreOrdered (segments_before file n) = segments_ordered file n both.0 in
    rw (← add-one, segments_before-more)
    (added (is_segment (program_header file n)) refl ordered both.1)
  where
    added : (describes : Bool) → is_segment (program_header file n) ≡ describes → AreOrdered (segments_before file n) → first_applying (row_refusals file n) ≡ None → AreOrdered (segments_before file n ++ cond describes (segment_of file (program_header file n) ∷ []) [])
    added true describes ordered row =
        let header = row_accepted file n describes row in
        AreOrdered-push (segments_before file n) (segment_of file (program_header file n)) ordered header.loadable header.above
    added false describes ordered row = rw append-nil ordered

-- an image that isn't refused is sound
pub image_sound : (file : List ℕ) → first_applying (table_refusals file (file_header file).e_phnum) ≡ None → first_applying (image_refusals (image_of file)) ≡ None → IsSound (image_of file)
unfolding image_refusals
image_sound file table image =
    let pages = none_of_cons _ _ _ image in
    let entry = none_of_cons _ _ _ pages.1 in
    record {
      ordered = segments_ordered file (file_header file).e_phnum table;
      pages = grind (arith, nat_tests, pages.0);
      aligned = grind (arith, nat_tests, entry.0);
      executable = grind (arith, nat_tests, entry.0);
    }

-- the image that is made of a file's header and segments
pub image_of-parts : (file : List ℕ) (header : FileHeader) (segments : List LoadSegment) → header ≡ file_header file → segments ≡ segments_of file → ◌≡◌ {A = LoadImage} (record { entry = header.e_entry; segments = segments }) (image_of file)
image_of-parts file header segments read loaded =
    ap (λ (h : FileHeader). let image : LoadImage = record { entry = h.e_entry; segments = segments } in image) read
    ∙ ap (λ (s : List LoadSegment). let image : LoadImage = record { entry = (file_header file).e_entry; segments = s } in image) loaded
