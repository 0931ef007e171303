use Rattle.std.proofs.Common.{◌≡◌, ◌∙◌, [], sym, ap, arith}
use Rattle.std.proofs.lemmas.Bool.Decides.{nat_tests}
use Rattle.std.proofs.lemmas.List.{nil_from_length}
use Rattle.timeline.specs.Calls.{call_event, joint_in}
use Rattle.timeline.specs.Present.{moment_of, point_at, steps_of}
use Rattle.timeline.proofs.Calling.{call_nothing, call_without}
use Rattle.timeline.proofs.Passing.{at_call, not_at_call}
use Rattle.timeline.proofs.present.Present.call_halt.Goals as goal

pub returns-in_ok-read-in-Some : goal.returns-in_ok-read-in-Some
returns-in_ok-read-in-Some c =
    let self = c.args.self.now in
    let watches = c.args.stops.now.watches.now in
    let turns = rw c.in-Some.is at c.requires.ready.sound.turns in
    c.call_event.ensures ∙ ap (λ read. call_event watches read (joint_in self c.in-Some.underway)) c.in_ok-read-in-Some.ensures
    ∙ sym (at_call watches self c.in-Some.underway c.in-Some.is turns (sym c.is_at_call.ensures ∙ c.if-is_at_call.true))

pub returns-in_default : goal.returns-in_default
returns-in_default c =
    let turns = rw c.in-Some.is at c.requires.ready.sound.turns in
    sym
    (not_at_call c.args.stops.now.watches.now c.args.self.now c.in-Some.underway c.in-Some.is turns (sym c.is_at_call.ensures ∙ c.if-is_at_call.false))

pub returns-in_default-2 : goal.returns-in_default-2
returns-in_default-2 c =
    let none : c.args.stops.now.watches.now ≡ [] = nil_from_length c.args.stops.now.watches.now (grind (arith, nat_tests, c.is_empty.ensures, c.if-not-is_empty.false)) in
    rw none (sym (call_nothing (moment_of c.args.self.now)))

pub returns-in_default-3 : goal.returns-in_default-3
returns-in_default-3 c =
    let begun = rw c.in_default.is at c.requires.ready.begun in
    sym (call_without c.args.stops.now.watches.now (point_at c.args.self.now) (steps_of c.args.self.now.underway) begun)
