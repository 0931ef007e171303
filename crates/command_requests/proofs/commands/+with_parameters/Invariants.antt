use Rattle.std.proofs.Common.{length}
use Rattle.command_requests.proofs.commands.+with_parameters.Given as goal

abbrev pub decreases-with_parameters : goal.decreases-with_parameters
decreases-with_parameters l = length l.parameters.now
