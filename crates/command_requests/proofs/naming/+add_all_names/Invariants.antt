use Rattle.std.proofs.Common.{length}
use Rattle.command_requests.proofs.naming.+add_all_names.Given as goal

abbrev pub decreases-add_all_names : goal.decreases-add_all_names
decreases-add_all_names l = length l.wanted.now
