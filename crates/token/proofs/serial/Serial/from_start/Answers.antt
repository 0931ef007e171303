use Rattle.std.proofs.Common.{[]}
use Rattle.token.proofs.LawfulTurn.{no_changes, no_turns}
use Rattle.token.proofs.serial.Serial.from_start.Goals as goal

pub invariant_of-result : goal.invariant_of-result
invariant_of-result g c = ([], c.requires.start.0, c.requires.start.1, rw (no_turns, no_changes) c.requires.records)
