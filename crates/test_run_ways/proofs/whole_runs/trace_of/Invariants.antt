use Rattle.token.specs.RunInTurn.{point_of}
use Rattle.test_run_ways.proofs.whole_runs.trace_of.Given as goal

-- the run that is meant is this one
abbrev pub ghosts-do_phases : goal.ghosts-do_phases
ghosts-do_phases g a = record { setup = (point_of a.serial).setup }
