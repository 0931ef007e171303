use Rattle.std.proofs.Common.{ℕ, List, subst, get_or}
use Rattle.races.specs.Clocks.{time, IsJoined}
use Rattle.races.proofs.Times.{part_none, part_more, part_all}
use Rattle.races.proofs.clock.Clock.join.Goals as goal

pub loop-thread-init : goal.loop-thread-init
loop-thread-init c = part_none (time c.args.self.now) c.deref-to-items.result.now

pub loop-thread-preserved : goal.loop-thread-preserved
loop-thread-preserved c =
    part_more (time c.args.self.now) (time c.loop-thread.self) (time c.raise.new.self) c.deref-to-items.result.now c.loop-thread.thread c.loop-thread.invariant c.in_ok-raise.ensures

pub returns : goal.returns
returns c =
    subst (λ (items : List ℕ). IsJoined (time c.args.self.now) (time c.loop-thread.self) (λ thread. get_or items thread 0)) c.deref-to-items.ensures.value
    (part_all (time c.args.self.now) (time c.loop-thread.self) c.deref-to-items.result.now c.loop-thread.thread c.loop-thread-test.false c.loop-thread.invariant)
