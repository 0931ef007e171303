use Rattle.std.proofs.Common.{◌≡◌}
use Rattle.timeline.specs.Line.{start_of}
use Rattle.gdb_monitor.proofs.searching.reach_turn.Given as goal

abbrev pub invariant-loop : goal.invariant-loop
invariant-loop l = start_of l.timeline ≡ start_of l.fn.timeline
