use Rattle.std.proofs.Common.{◌≡◌, ◌<◌, arith, sym, ap, ◌∙◌, true, false}
use Rattle.elf32_reader.specs.declared.file_header.FileHeader.{FileHeader}
use Rattle.elf32_reader.specs.Fields.{file_header, program_header}
use Rattle.elf32_reader.specs.Segments.{is_segment, segments_before}
use Rattle.elf32_reader.proofs.Accepted.{row_accepted}
use Rattle.elf32_reader.proofs.Rows.{none_of_row}
use Rattle.elf32_reader.proofs.Summing.{segments_before-ignored, segments_before-segment}
use Rattle.elf32_reader.proofs.reader.load.Goals as goal
use Rattle.elf32_reader.proofs.reader.load.Goals.{then-is_segment+in_ok-load+in_ok-push, else-is_segment}

pub loop-row-init : goal.loop-row-init
unfolding segments_before
loop-row-init c = c.new-segments.ensures.items

pub load-requires-clause-inside : goal.load-requires-clause-inside
load-requires-clause-inside c =
    let below : c.loop-row.row < (file_header c.args.file.now).e_phnum = omega (arith, ap (λ (h : FileHeader). h.e_phnum) c.requires.file.header) in
    let row = none_of_row c.args.file.now c.loop-row.row _ below c.requires.tested in
    let describes : is_segment (program_header c.args.file.now c.loop-row.row) ≡ true = rw (← c.program_header-program_header.ensures) (sym c.if-is_segment.ensures) in
    rw c.program_header-program_header.ensures (row_accepted c.args.file.now c.loop-row.row describes row).within

pub load-requires-clause-loadable : goal.load-requires-clause-loadable
load-requires-clause-loadable c =
    let below : c.loop-row.row < (file_header c.args.file.now).e_phnum = omega (arith, ap (λ (h : FileHeader). h.e_phnum) c.requires.file.header) in
    let row = none_of_row c.args.file.now c.loop-row.row _ below c.requires.tested in
    let describes : is_segment (program_header c.args.file.now c.loop-row.row) ≡ true = rw (← c.program_header-program_header.ensures) (sym c.if-is_segment.ensures) in
    rw c.program_header-program_header.ensures (row_accepted c.args.file.now c.loop-row.row describes row).loadable

pub loop-row-preserved : goal.loop-row-preserved
loop-row-preserved c =
    elim c.if-is_segment.branch [
      | then-is_segment+in_ok-load+in_ok-push w ↦
          let describes : is_segment c.program_header-program_header.result ≡ true = sym c.is_segment.ensures ∙ w.if-is_segment.true in
          let more = segments_before-segment c.args.file.now c.loop-row.row _ c.program_header-program_header.ensures describes in
          let items = w.in_ok-push.ensures.items in
          let loaded = w.in_ok-load.ensures in
          ap (λ segments. segments.items) w.segments-is ∙ cc
      | else-is_segment w ↦
          let ignored : is_segment c.program_header-program_header.result ≡ false = sym c.is_segment.ensures ∙ w.if-is_segment.false in
          let same = segments_before-ignored c.args.file.now c.loop-row.row _ c.program_header-program_header.ensures ignored in
          ap (λ segments. segments.items) w.segments-is ∙ (c.loop-row.invariant ∙ sym same)
    ]
