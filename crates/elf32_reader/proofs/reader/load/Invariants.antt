use Rattle.std.proofs.Common.{◌≡◌}
use Rattle.elf32_reader.specs.Segments.{segments_before}
use Rattle.elf32_reader.proofs.reader.load.Given as goal

abbrev pub invariant-loop-row : goal.invariant-loop-row
invariant-loop-row l = l.segments.items ≡ segments_before l.file l.row
