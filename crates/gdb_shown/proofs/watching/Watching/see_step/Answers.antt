use Rattle.std.proofs.Common.{◌∙◌, get_or, sym, arith}
use Rattle.timeline.specs.Present.{moment_of}
use Rattle.gdb_shown.specs.Watching.{Range, after_step, is_other, other_of, range_of}
use Rattle.gdb_shown.proofs.Seeing.{as_told, one_seen, told_none, told_one}
use Rattle.gdb_shown.proofs.watching.Watching.see_step.Goals.{then-branch+in_ok-push, else-branch}
use Rattle.gdb_shown.proofs.watching.Watching.see_step.Goals as goal

pub loop-seen-preserved : goal.loop-seen-preserved
loop-seen-preserved c =
    let moment = moment_of c.args.timeline.now.present in
    let told = c.args.told in
    let before = c.args.before.now in
    let old = c.deref_mut-seen-items.result.now in
    let seen = c.loop-seen.seen-items in
    let index = c.loop-seen.seen-index in
    let default = c.seen-item.result in
    let range : Range = range_of (get_or seen index default) in
    let so_far = c.loop-seen.invariant in
    let is = c.in_ok-see_step.ensures in
    let f = after_step moment told before in
    let one = one_seen f old seen index default c.see_step.new.self (omega arith) (omega arith) so_far.0 is.range in
    elim c.if-branch.branch [
      | then-branch+in_ok-push w ↦ (
        rw w.seen-items-is one,
        rw (w.others-is, w.in_ok-push.ensures.items, so_far.1, w.other_of.ensures, as_told moment told before told.thread range (range_of c.see_step.new.self) is.range)
            (told_one f (is_other moment told before) (other_of told.thread) old seen index default (omega arith) (omega arith) so_far.0 (sym is.other ∙ w.if-branch.true)),
      )
      | else-branch w ↦ (
        rw w.seen-items-is one,
        rw (w.others-is, so_far.1)
            (told_none f (is_other moment told before) (other_of told.thread) old seen index default (omega arith) (omega arith) so_far.0 (sym is.other ∙ w.if-branch.false)),
      )
    ]
