use Rattle.std.proofs.Common.{◌≡◌, ◌∙◌, sym, arith}
use Rattle.timeline.specs.Halts.{wanted_by}
use Rattle.timeline.specs.Present.{point_at, steps_of}
use Rattle.timeline.proofs.Walking.{all_walk, calls_here, halts_here}
use Rattle.timeline.proofs.present.Present.go_on.Goals as goal

pub returns-in-Some-clause-walked : goal.returns-in-Some-clause-walked
returns-in-Some-clause-walked c =
    let old = c.args.self.now in
    let begun = c.begin.new.self in
    let serial = c.begin.ensures.turn.serial in
    let point : point_at begun ≡ point_at old = cc in
    let steps : steps_of begun.underway ≡ steps_of old.underway = omega (arith, c.begin.ensures.turn.before, c.begin.ensures.step) in
    halts_here (wanted_by c.args.stops.now) old begun c.in-Some.halt point steps c.begin.ensures.step (sym c.halt_here.ensures ∙ c.in-Some.is)

pub returns-clause-walked : goal.returns-clause-walked
returns-clause-walked c =
    let old = c.args.self.now in
    let begun = c.begin.new.self in
    let serial = c.begin.ensures.turn.serial in
    let point : point_at begun ≡ point_at old = cc in
    let steps : steps_of begun.underway ≡ steps_of old.underway = omega (arith, c.begin.ensures.turn.before, c.begin.ensures.step) in
    all_walk (wanted_by c.args.stops.now) old begun _ c.proceed.result point steps c.begin.ensures.step (sym c.halt_here.ensures ∙ c.in_default.is) c.proceed.ensures.walked

pub returns-in-Some-2-clause-walked : goal.returns-in-Some-2-clause-walked
returns-in-Some-2-clause-walked c =
    calls_here (wanted_by c.args.stops.now) c.args.self.now c.begin.new.self c.in-Some-2.halt c.begin.ensures.step (sym c.halt_here.ensures ∙ c.in_default.is)
    (sym c.in_ok-halt.ensures ∙ c.in-Some-2.is)
