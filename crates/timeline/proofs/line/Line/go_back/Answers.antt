use Rattle.std.proofs.Common.{◌≡◌, ap, arith, rules}
use Rattle.timeline.specs.Line.{start_of}
use Rattle.timeline.specs.Present.{step_of}
use Rattle.timeline.proofs.Backing.{leads_to}
use Rattle.timeline.proofs.Near.{near_begins, near_kept}
use Rattle.timeline.proofs.line.Line.go_back.Goals as goal
use Rattle.timeline.proofs.line.Line.go_back.Goals.{then-step_number-near+in_ok-advance, else-step_number-near}

pub advance-requires : goal.advance-requires
advance-requires c =
    let line = c.loop-distance.self in
    let invariant = c.loop-distance.invariant in
    let here : step_of line.present ≡ step_of c.args.self.now.present = ap step_of invariant.same in
    record {
      sound = invariant.sound;
      few = omega (arith, invariant.few, c.saturating_sub-near.ensures);
      within = search rules;
      leads =
          leads_to (start_of line) c.loop-distance.present line.present c.saturating_sub-near.result invariant.begins invariant.keeps.line.begins invariant.keeps.line.present.turns
          (omega (arith, here, invariant.before, c.saturating_sub-near.ensures));
    }

pub advance-requires-2 : goal.advance-requires-2
advance-requires-2 c =
    let line = c.loop-distance.self in
    let invariant = c.loop-distance.invariant in
    let here : step_of line.present ≡ step_of c.args.self.now.present = ap step_of invariant.same in
    record {
      sound = invariant.sound;
      few = invariant.few;
      within = invariant.within;
      leads =
          leads_to (start_of line) c.loop-distance.present line.present c.args.step invariant.begins invariant.keeps.line.begins invariant.keeps.line.present.turns
          (omega (arith, here, invariant.before));
    }

pub loop-distance-preserved : goal.loop-distance-preserved
loop-distance-preserved c =
    let invariant = c.loop-distance.invariant in
    let line = c.loop-distance.self in
    elim c.if-step_number-near.branch [
      | then-step_number-near+in_ok-advance w ↦
          let near : step_of w.advance.new.self ≡ c.saturating_sub-near.result = w.in_ok-advance.ensures.there in
          rw (w.self-is, w.present-is) (record {
            keeps = near_kept c.args.self.now line w.keep_near.new.self invariant.keeps w.keep_near.ensures;
            sound = w.advance.ensures.stays.sound;
            begins = near_begins line w.keep_near.new.self w.advance.new.self w.keep_near.ensures (w.advance.ensures.stays.begins (start_of line) invariant.begins);
            few = invariant.few;
            same = invariant.same;
            before = invariant.before;
            within = omega (arith, near, c.saturating_sub-near.ensures);
          })
      | else-step_number-near w ↦ rw (w.self-is, w.present-is) invariant
    ]
