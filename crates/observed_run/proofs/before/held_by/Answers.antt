use Rattle.std.proofs.Common.{◌≡◌, ◌∙◌, ap, arith}
use Rattle.condvar_barrier.specs.Objects.{holds_mutex}
use Rattle.observed_run.specs.Calls.{passing}
use Rattle.observed_run.proofs.before.held_by.Goals as goal

pub returns : goal.returns
returns c =
    let all : c.loop-mutex.mutex ≡ 64 = omega (arith, c.loop-mutex-test.false, c.loop-mutex.auto.mutex-end) in
    c.loop-mutex.invariant ∙ ap (passing (holds_mutex c.args.objects.now c.args.thread)) all
