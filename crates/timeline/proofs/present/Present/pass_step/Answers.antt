use Rattle.std.proofs.Common.{◌≡◌, ◌∙◌, [], ap, sym}
use Rattle.timeline.specs.Halts.{Wanted, wanted_by}
use Rattle.timeline.specs.Present.{moment_of, step_of}
use Rattle.timeline.proofs.Backing.{looked_step, one_step, other_step}
use Rattle.timeline.proofs.Calling.{call_nothing}
use Rattle.timeline.proofs.Turning.{stands_at}
use Rattle.timeline.proofs.present.Present.pass_step.Goals as goal

pub proceed-requires-clause-call : goal.proceed-requires-clause-call
proceed-requires-clause-call c =
    let none : c.none.result.watches.now ≡ [] = ap (λ (wanted : Wanted). wanted.watches) c.none.ensures in
    rw none (call_nothing (moment_of c.args.self.now))

pub returns-then-moves_other-clause-next : goal.returns-then-moves_other-clause-next
returns-then-moves_other-clause-next c =
    one_step c.args.self.now c.proceed.new.self (wanted_by c.none.result) c.in_ok-proceed.field-0 _ c.requires.leads c.step_number-next.ensures c.none.ensures c.in_ok-proceed.ensures.proceeds.step
    c.in_ok-proceed.ensures.walked c.proceed.ensures.proceeds.stays

pub returns-clause-next : goal.returns-clause-next
returns-clause-next c =
    one_step c.args.self.now c.proceed.new.self (wanted_by c.none.result) c.in_ok-proceed.field-0 _ c.requires.leads c.step_number-next.ensures c.none.ensures c.in_ok-proceed.ensures.proceeds.step
    c.in_ok-proceed.ensures.walked c.proceed.ensures.proceeds.stays

pub returns-then-moves_other-clause-found : goal.returns-then-moves_other-clause-found
returns-then-moves_other-clause-found c = λ start begins.
    let old = c.args.self.now in
    let next : c.step_number-next.result ≡ step_of old = c.step_number-next.ensures in
    rw next
    (other_step (wanted_by c.args.stops.now) start old (step_of c.proceed.new.self) (stands_at start old c.requires.can.ready.sound.turns begins)
    (sym c.moves_other-moves_other.ensures ∙ c.if-moves_other.true) (returns-then-moves_other-clause-next c))

pub returns-clause-found : goal.returns-clause-found
returns-clause-found c = λ start begins.
    let old = c.args.self.now in
    looked_step (wanted_by c.args.stops.now) start old (step_of c.proceed.new.self) c.in_ok-found.found (stands_at start old c.requires.can.ready.sound.turns begins)
    (sym c.moves_other-moves_other.ensures ∙ c.if-moves_other.false) (returns-clause-next c) c.in_ok-found.ensures
