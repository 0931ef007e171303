use Rattle.std.proofs.Common.{length}
use Rattle.command_requests.proofs.naming.+first_twins.Given as goal

abbrev pub decreases-first_twins : goal.decreases-first_twins
decreases-first_twins g l = length l.names.now
