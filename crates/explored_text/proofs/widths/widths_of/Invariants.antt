use Rattle.std.proofs.Common.{◌≡◌, take}
use Rattle.std.specs.Prelude.{fold}
use Rattle.explored_text.specs.Tables.{narrowest, widened}
use Rattle.explored_text.proofs.widths.widths_of.Given as goal

abbrev pub invariant-loop-row : goal.invariant-loop-row
invariant-loop-row l = l.widths ≡ fold widened narrowest (take l.row-index l.rows)
