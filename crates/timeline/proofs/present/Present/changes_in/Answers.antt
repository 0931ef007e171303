use Rattle.std.proofs.Common.{◌∙◌, ℕ, ◌+◌, Bool, sym, arith}
use Rattle.std.specs.Prelude.{min}
use Rattle.timeline.specs.Calls.{Joint, has_changed, holds_at, joint_in}
use Rattle.timeline.proofs.AnyBelow.{found, none_yet, one_more}
use Rattle.timeline.proofs.present.Present.changes_in.Goals as goal

abbrev test : Joint → ℕ → ℕ → Bool
test joint start offset = holds_at (has_changed joint) (start + offset)

pub loop-offset-init : goal.loop-offset-init
loop-offset-init c = none_yet (test (joint_in c.args.self.now c.args.underway.now) c.args.watch.now.start)

pub loop-offset-preserved : goal.loop-offset-preserved
loop-offset-preserved c =
    one_more (test (joint_in c.args.self.now c.args.underway.now) c.args.watch.now.start) c.loop-offset.offset c.loop-offset.invariant
    (sym c.has_changed_at.ensures ∙ c.if-has_changed_at.false)

pub returns-then-has_changed_at : goal.returns-then-has_changed_at
returns-then-has_changed_at c =
    sym
    (found (test (joint_in c.args.self.now c.args.underway.now) c.args.watch.now.start) c.loop-offset.offset (min c.args.watch.now.len 4096)
    (omega (arith, c.loop-offset-test.true, c.min-offset-end.ensures)) (sym c.has_changed_at.ensures ∙ c.if-has_changed_at.true))
