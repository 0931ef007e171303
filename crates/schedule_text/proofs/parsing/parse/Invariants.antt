use Rattle.std.proofs.Common.{◌≡◌, ◌++◌, length}
use Rattle.std.specs.Prelude.{All}
use Rattle.schedule_text.specs.Text.{IsWritable, text_of}
use Rattle.schedule_text.proofs.parsing.parse.Given as goal

abbrev pub invariant-loop-line : goal.invariant-loop-line
invariant-loop-line l = record { written : All IsWritable l.events.items; parts : l.text ≡ text_of l.events.items ++ l.rest }

abbrev pub decreases-loop-line : goal.decreases-loop-line
decreases-loop-line l = length l.rest
