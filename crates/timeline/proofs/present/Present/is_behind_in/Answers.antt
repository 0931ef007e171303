use Rattle.std.proofs.Common.{◌∙◌, ℕ, ◌+◌, Bool, sym, arith}
use Rattle.std.specs.Prelude.{min}
use Rattle.timeline.specs.Calls.{Joint, is_behind, holds_at, joint_in}
use Rattle.timeline.proofs.AnyBelow.{found, none_yet, one_more}
use Rattle.timeline.proofs.present.Present.is_behind_in.Goals as goal

abbrev test : Joint → ℕ → ℕ → Bool
test joint start offset = holds_at (is_behind joint) (start + offset)

pub loop-offset-init : goal.loop-offset-init
loop-offset-init c = none_yet (test (joint_in c.args.self.now c.args.underway.now) c.args.watch.now.start)

pub loop-offset-preserved : goal.loop-offset-preserved
loop-offset-preserved c =
    one_more (test (joint_in c.args.self.now c.args.underway.now) c.args.watch.now.start) c.loop-offset.offset c.loop-offset.invariant
    (sym c.is_behind_at.ensures ∙ c.if-is_behind_at.false)

pub returns-then-is_behind_at : goal.returns-then-is_behind_at
returns-then-is_behind_at c =
    sym
    (found (test (joint_in c.args.self.now c.args.underway.now) c.args.watch.now.start) c.loop-offset.offset (min c.args.watch.now.len 4096)
    (omega (arith, c.loop-offset-test.true, c.min-offset-end.ensures)) (sym c.is_behind_at.ensures ∙ c.if-is_behind_at.true))
