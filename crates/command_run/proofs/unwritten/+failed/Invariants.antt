use Rattle.std.proofs.Common.{length}
use Rattle.command_run.proofs.unwritten.+failed.Given as goal

abbrev pub decreases-failed : goal.decreases-failed
decreases-failed g l = length l.items.now
