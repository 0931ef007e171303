-- How the summary of the first program headers' segments grows by one header.
use Rattle.std.proofs.Common.{◌≡◌, ℕ, ◌+◌, ◌≤◌, arith, true, false, Option, Some, None, List, [], ◌∷◌, ◌++◌, refl, sym, ap, ◌∙◌}
use Rattle.std.specs.Prelude.{◌&&◌, option_map}
use Rattle.std.specs.List.{last_or}
use Rattle.std.proofs.Math.Bool.{or-false}
use Rattle.std.proofs.lemmas.List.{append-nil}
use Rattle.std.proofs.lemmas.List.Folds.{list_any-append}
use Rattle.std.proofs.lemmas.List.Sums.{sum_by_push}
use Rattle.elf32_reader.specs.declared.summary.Summary.{Summary}
use Rattle.elf32_reader.specs.Fields.{program_header}
use Rattle.elf32_reader.specs.declared.fault.ElfFault.{ElfFault}
use Rattle.elf32_reader.specs.declared.program_header.ProgramHeader.{ProgramHeader}
use Rattle.elf32_reader.specs.LoadSegment.{LoadSegment, IsLoadable, last_page, page_count, covers}
use Rattle.elf32_reader.specs.Refusals.{first_applying, program_refusals, row_refusals}
use Rattle.elf32_reader.specs.Segments.{is_segment, segment_of, segments_before}
use Rattle.elf32_reader.specs.Summaries.{summary_of, with_segment}
use Rattle.elf32_reader.proofs.Rows.{segments_before-more}

last_or_push : (before : Option LoadSegment) (segments : List LoadSegment) (next : LoadSegment) → last_or before (segments ++ next ∷ []) ≡ Some next
last_or_push before [] next = refl
last_or_push before (x ∷ segments) next = last_or_push (Some x) segments next

summary_of-push : (entry : ℕ) (segments : List LoadSegment) (next : LoadSegment) → summary_of entry (segments ++ next ∷ []) ≡ with_segment entry (summary_of entry segments) next
unfolding summary_of
summary_of-push entry segments next =
    let last : last_or None (segments ++ next ∷ []) ≡ Some next = last_or_push None segments next in
    rw (last, sum_by_push page_count segments next, list_any-append (λ segment. covers entry segment && segment.perm.execute) segments (next ∷ []), or-false) refl

-- the summary of no segments
pub summary_of-none : (file : List ℕ) (entry : ℕ) → summary_of entry (segments_before file 0) ≡ record { last_page = None; pages = 0; entry_is_executable = false }
unfolding summary_of segments_before
summary_of-none file entry = refl

-- the test of a program header, given what the summary of the segments before it tells
pub row_verdict : (file : List ℕ) (row entry : ℕ) (summary : Summary) (header : ProgramHeader) (verdict : Option ElfFault) → summary ≡ summary_of entry (segments_before file row) → header ≡ program_header file row → first_applying (program_refusals file summary.last_page header) ≡ verdict → first_applying (row_refusals file row) ≡ verdict
unfolding row_refusals summary_of
row_verdict file row entry summary header verdict told read tested =
    let last : summary.last_page ≡ option_map last_page (last_or None (segments_before file row)) = ap (λ (s : Summary). s.last_page) told in
    ap (λ (page : Option ℕ). first_applying (program_refusals file page (program_header file row))) (sym last)
    ∙ (ap (λ (h : ProgramHeader). first_applying (program_refusals file summary.last_page h)) (sym read) ∙ tested)

-- one more program header, which describes a segment
pub summary_of-segment : (file : List ℕ) (row entry : ℕ) (summary next : Summary) (header : ProgramHeader) → summary ≡ summary_of entry (segments_before file row) → header ≡ program_header file row → is_segment header ≡ true → next ≡ with_segment entry summary (segment_of file header) → next ≡ summary_of entry (segments_before file (row + 1))
summary_of-segment file row entry summary next header told read describes added =
    let here : is_segment (program_header file row) ≡ true = rw (← read) describes in
    let whole : summary_of entry (segments_before file (row + 1)) ≡ with_segment entry (summary_of entry (segments_before file row)) (segment_of file (program_header file row)) =
    rw (segments_before-more file row, here) (summary_of-push entry (segments_before file row) (segment_of file (program_header file row))) in
    added
    ∙ ap (λ (s : Summary). with_segment entry s (segment_of file header)) told
    ∙ ap (λ (h : ProgramHeader). with_segment entry (summary_of entry (segments_before file row)) (segment_of file h)) read
    ∙ sym whole

-- and one that doesn't
pub segments_before-ignored : (file : List ℕ) (row : ℕ) (header : ProgramHeader) → header ≡ program_header file row → is_segment header ≡ false → segments_before file (row + 1) ≡ segments_before file row
segments_before-ignored file row header read ignored =
    let here : is_segment (program_header file row) ≡ false = rw (← read) ignored in
    rw (segments_before-more file row, here) (append-nil (segments_before file row))

-- a segment in the image window has at most the window's pages
pub page_count_small : (segment : LoadSegment) → IsLoadable segment → page_count segment ≤ 131072
page_count_small segment loadable = let below = loadable.below in omega arith

pub segments_before-segment : (file : List ℕ) (row : ℕ) (header : ProgramHeader) → header ≡ program_header file row → is_segment header ≡ true → segments_before file (row + 1) ≡ segments_before file row ++ segment_of file header ∷ []
segments_before-segment file row header read describes =
    let here : is_segment (program_header file row) ≡ true = rw (← read) describes in
    rw (segments_before-more file row, here, read) refl
