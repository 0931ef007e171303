use Rattle.std.proofs.Common.{length}
use Rattle.command_run.proofs.unwritten.+writing.Given as goal

abbrev pub decreases-writing : goal.decreases-writing
decreases-writing g l = length l.items.now
