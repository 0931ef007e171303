use Rattle.std.proofs.Common.{◌≡◌, ◌+◌, ◌≤◌, length}
use Rattle.std.specs.Prelude.{IfSome}
use Rattle.file_facts.specs.Format.{section_header_size}
use Rattle.file_facts.specs.Sections.{first_of, section_start}
use Rattle.file_facts.proofs.sections.wanted_in.Given as goal

abbrev pub invariant-loop-row : goal.invariant-loop-row
invariant-loop-row l = record {
  section : l.found ≡ first_of l.file l.wanted l.row;
  inside : IfSome l.found (λ row. section_start l.file row + section_header_size ≤ length l.file);
}
