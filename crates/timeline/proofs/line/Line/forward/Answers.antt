use Rattle.std.proofs.Common.{◌≡◌, ◌∙◌, sym, subst, arith}
use Rattle.token.specs.Point.{Point}
use Rattle.timeline.specs.Halts.{wanted_by}
use Rattle.timeline.specs.Line.{start_of}
use Rattle.timeline.specs.Present.{BeginsAt, step_of}
use Rattle.timeline.specs.declared.line.Line.{Line}
use Rattle.timeline.proofs.Walking.{passed_by_walk}
use Rattle.timeline.proofs.line.Line.forward.Goals as goal

pub returns-in-Some-clause-passed : goal.returns-in-Some-clause-passed
returns-in-Some-clause-passed c =
    let old = c.loop-self.self in
    let begins = subst (λ (start : Point). BeginsAt start old.present) c.loop-self.invariant.keeps.run c.loop-self.invariant.keeps.line.begins in
    passed_by_walk (wanted_by c.args.stops.now) (start_of c.args.self.now) old.present c.go_on.new.self c.in_ok-halt.field-0 (step_of c.args.self.now.present) begins
    c.in_ok-halt.ensures.walked c.loop-self.invariant.passed

pub loop-self-preserved : goal.loop-self-preserved
loop-self-preserved c =
    let old = c.loop-self.self in
    let new : Line = record { present = c.go_on.new.self; checkpoints = c.keep.new.self } in
    let first = c.keep.ensures.first in
    let same : start_of new ≡ start_of old = cc in
    let begins = subst (λ (start : Point). BeginsAt start old.present) c.loop-self.invariant.keeps.run c.loop-self.invariant.keeps.line.begins in
    let begins_new = subst (λ (start : Point). BeginsAt start c.go_on.new.self) (sym same) (c.go_on.ensures.proceeds.stays.begins (start_of old) c.loop-self.invariant.keeps.line.begins) in
    let step = rw c.in_default.is at c.in_ok-halt.ensures.proceeds.step in
    record {
      keeps = record {
        line = record { present = c.go_on.ensures.proceeds.stays.sound; begins = begins_new; checkpoints = c.keep.ensures.sound };
        run = same ∙ c.loop-self.invariant.keeps.run;
      };
      few = c.loop-self.invariant.few;
      since = omega (arith, step, c.loop-self.invariant.since);
      within = omega (arith, step, c.goal-goal.ensures.within);
      passed =
          passed_by_walk (wanted_by c.args.stops.now) (start_of c.args.self.now) old.present c.go_on.new.self c.in_ok-halt.field-0 (step_of c.args.self.now.present) begins
          c.in_ok-halt.ensures.walked c.loop-self.invariant.passed;
    }

pub returns-in-Some-clause-since : goal.returns-in-Some-clause-since
returns-in-Some-clause-since c =
    let step = rw c.in-Some.is at c.in_ok-halt.ensures.proceeds.step in
    omega (arith, step, c.loop-self.invariant.since)
