use Rattle.std.proofs.Common.{◌≡◌}
use Rattle.symbols.proofs.Rows.{sections_before}
use Rattle.symbols.proofs.sections.sections.Given as goal

abbrev pub invariant-loop-row : goal.invariant-loop-row
invariant-loop-row l = l.sections.items ≡ sections_before l.file l.row
