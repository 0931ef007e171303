use Rattle.std.proofs.Common.{◌≡◌, ◌<◌, arith, refl, sym, ap, ◌∙◌, true, false}
use Rattle.std.proofs.lemmas.Result.{err_from_is_err_and}
use Rattle.elf32_reader.specs.declared.file_header.FileHeader.{FileHeader}
use Rattle.elf32_reader.specs.Fields.{file_header}
use Rattle.elf32_reader.specs.Segments.{is_segment, segment_of}
use Rattle.elf32_reader.specs.Summaries.{summary_of, with_segment}
use Rattle.elf32_reader.specs.Refusals.{first_applying, table_refusals}
use Rattle.elf32_reader.proofs.Accepted.{accepted}
use Rattle.elf32_reader.proofs.Rows.{table_stops, none_of_more}
use Rattle.elf32_reader.proofs.Summing.{summary_of-none, row_verdict, summary_of-segment, segments_before-ignored, page_count_small}
use Rattle.elf32_reader.proofs.reader.survey.Goals as goal
use Rattle.elf32_reader.proofs.reader.survey.Goals.{then-is_segment, else-is_segment}

pub loop-row-init : goal.loop-row-init
unfolding table_refusals first_applying
loop-row-init c = record {
  tested = refl;
  summary = sym (summary_of-none c.args.file.now _);
  few = omega arith;
}

pub returns-in_err-test-clause-tests : goal.returns-in_err-test-clause-tests
returns-in_err-test-clause-tests c =
    let refused = err_from_is_err_and c.from_residual.result c.from_residual.ensures.1 in
    let row = row_verdict c.args.file.now c.loop-row.row _ c.loop-row.summary _ _ c.loop-row.invariant.summary c.program_header-program_header.ensures c.in_err-test.ensures in
    let below : c.loop-row.row < (file_header c.args.file.now).e_phnum = omega (arith, ap (λ (h : FileHeader). h.e_phnum) c.requires.file.header) in
    rw (refused.1, refused.2) (table_stops c.args.file.now c.loop-row.row _ _ below c.loop-row.invariant.tested row)

pub with-summary-requires-clause-below : goal.with-summary-requires-clause-below
with-summary-requires-clause-below c =
    (accepted c.args.file.now c.loop-row.summary.last_page c.program_header-program_header.result (sym c.if-is_segment.ensures) c.in_ok-test.ensures).loadable.below

pub loop-row-preserved : goal.loop-row-preserved
loop-row-preserved c =
    let row = row_verdict c.args.file.now c.loop-row.row _ c.loop-row.summary _ _ c.loop-row.invariant.summary c.program_header-program_header.ensures c.in_ok-test.ensures in
    let tested = none_of_more c.args.file.now c.loop-row.row c.loop-row.invariant.tested row in
    elim c.if-is_segment.branch [
      | then-is_segment w ↦
          let describes : is_segment c.program_header-program_header.result ≡ true = sym c.is_segment.ensures ∙ w.if-is_segment.true in
          let loadable = (accepted c.args.file.now c.loop-row.summary.last_page c.program_header-program_header.result describes c.in_ok-test.ensures).loadable in
          let small = page_count_small (segment_of c.args.file.now c.program_header-program_header.result) loadable in
          let segment = segment_of c.args.file.now c.program_header-program_header.result in
          let added = w.summary-is ∙ (w.with-summary.ensures c.args.file.now ∙ ap (λ (h : FileHeader). with_segment h.e_entry c.loop-row.summary segment) c.requires.file.header) in
          record {
            tested = tested;
            summary = summary_of-segment c.args.file.now c.loop-row.row _ c.loop-row.summary _ _ c.loop-row.invariant.summary c.program_header-program_header.ensures describes added;
            few = let pages = ap (λ s. s.pages) added in omega arith;
          }
      | else-is_segment w ↦
          let ignored : is_segment c.program_header-program_header.result ≡ false = sym c.is_segment.ensures ∙ w.if-is_segment.false in
          let same = segments_before-ignored c.args.file.now c.loop-row.row _ c.program_header-program_header.ensures ignored in
          record {
            tested = tested;
            summary = w.summary-is ∙ (c.loop-row.invariant.summary ∙ ap (λ segments. summary_of (file_header c.args.file.now).e_entry segments) (sym same));
            few = let pages = ap (λ s. s.pages) w.summary-is in omega arith;
          }
    ]
