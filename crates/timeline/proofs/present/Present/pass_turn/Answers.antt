use Rattle.std.proofs.Common.{◌∙◌, sym}
use Rattle.timeline.specs.Halts.{wanted_by}
use Rattle.timeline.specs.Present.{point_at, step_of, steps_of}
use Rattle.timeline.proofs.Backing.{moved_other, plain_of, silent_walk, turn_passed}
use Rattle.timeline.proofs.Passing.{silent_call}
use Rattle.timeline.proofs.present.Present.pass_turn.Goals as goal

pub proceed-requires-clause-call : goal.proceed-requires-clause-call
proceed-requires-clause-call c =
    let old = c.args.self.now in
    silent_call (wanted_by c.args.stops.now) (point_at old) old.underway (steps_of old.underway) c.requires.begun c.requires.quiet

pub returns-then-moves_other : goal.returns-then-moves_other
returns-then-moves_other c =
    let wanted = wanted_by c.args.stops.now in
    let old = c.args.self.now in
    let new = c.proceed.new.self in
    let proceeds = c.in_ok-proceed.ensures.proceeds in
    let walked = c.in_ok-proceed.ensures.walked in
    let on =
    turn_passed wanted old new c.args.until c.in_ok-proceed.field-0 c.requires.can.goes.sound c.requires.begun c.requires.quiet c.requires.can.leads proceeds.step walked proceeds.stays in
    record {
      stays = proceeds.stays;
      further = on.0;
      within = on.1;
      found = λ start begins.
          rw c.step_number.ensures
          (moved_other wanted start old (step_of new) begins (sym c.moves_other-moves_other.ensures ∙ c.if-moves_other.true) on.0 (plain_of wanted old new c.in_ok-proceed.field-0 walked));
    }

pub returns : goal.returns
returns c =
    let wanted = wanted_by c.args.stops.now in
    let old = c.args.self.now in
    let new = c.proceed.new.self in
    let proceeds = c.in_ok-proceed.ensures.proceeds in
    let walked = c.in_ok-proceed.ensures.walked in
    let on =
    turn_passed wanted old new c.args.until c.in_ok-proceed.field-0 c.requires.can.goes.sound c.requires.begun c.requires.quiet c.requires.can.leads proceeds.step walked proceeds.stays in
    record {
      stays = proceeds.stays;
      further = on.0;
      within = on.1;
      found = λ start begins.
          silent_walk wanted start old (step_of new) begins (sym c.moves_other-moves_other.ensures ∙ c.if-moves_other.false) (plain_of wanted old new c.in_ok-proceed.field-0 walked);
    }
