use Rattle.std.proofs.Common.{◌≡◌, ◌++◌, map, take, drop}
use Rattle.condvar_barrier.specs.Rows.{released_by}
use Rattle.condvar_barrier.proofs.objects.release.Given as goal

abbrev pub invariant-loop-holder : goal.invariant-loop-holder
invariant-loop-holder l = l.holders ≡ map (released_by l.thread) (take l.holder-index l.initial.holders) ++ drop l.holder-index l.initial.holders
