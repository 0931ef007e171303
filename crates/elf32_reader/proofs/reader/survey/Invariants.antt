use Rattle.std.proofs.Common.{◌≡◌, ◌≤◌, ◌*◌, None}
use Rattle.elf32_reader.specs.Fields.{file_header}
use Rattle.elf32_reader.specs.Segments.{segments_before}
use Rattle.elf32_reader.specs.Summaries.{summary_of}
use Rattle.elf32_reader.specs.Refusals.{first_applying, table_refusals}
use Rattle.elf32_reader.proofs.reader.survey.Given as goal

-- no program header so far is refused, and the summary is that of their segments
abbrev pub invariant-loop-row : goal.invariant-loop-row
invariant-loop-row l = record {
  tested : first_applying (table_refusals l.file l.row) ≡ None;
  summary : l.summary ≡ summary_of (file_header l.file).e_entry (segments_before l.file l.row);
  few : l.summary.pages ≤ 131072 * l.row;
}
