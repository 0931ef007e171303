use Rattle.std.specs.Vec.Iter.{into_iter_len}
use Rattle.command_run.proofs.finishing.+finish_rest.Given as goal

abbrev pub decreases-finish_rest : goal.decreases-finish_rest
decreases-finish_rest g l = into_iter_len l.rest.now
