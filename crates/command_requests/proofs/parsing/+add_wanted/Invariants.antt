use Rattle.std.proofs.Common.{length}
use Rattle.command_requests.proofs.parsing.+add_wanted.Given as goal

abbrev pub decreases-add_wanted : goal.decreases-add_wanted
decreases-add_wanted l = length l.parameters.now
