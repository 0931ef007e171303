use Rattle.std.specs.Vec.Iter.{into_iter_len}
use Rattle.command_run.proofs.abandoning.+abandon_rest.Given as goal

abbrev pub decreases-abandon_rest : goal.decreases-abandon_rest
decreases-abandon_rest g l = into_iter_len l.rest.now
