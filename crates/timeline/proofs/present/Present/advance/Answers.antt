use Rattle.std.proofs.Common.{◌≡◌, [], ap, arith}
use Rattle.timeline.specs.Halts.{Wanted, wanted_by}
use Rattle.timeline.specs.Present.{moment_of}
use Rattle.timeline.proofs.Backing.{goes_on}
use Rattle.timeline.proofs.Calling.{call_nothing}
use Rattle.timeline.proofs.Turning.{same_begins}
use Rattle.timeline.proofs.present.Present.advance.Goals as goal

pub proceed-requires-clause-call : goal.proceed-requires-clause-call
proceed-requires-clause-call c =
    let none : c.none.result.watches.now ≡ [] = ap (λ (wanted : Wanted). wanted.watches) c.none.ensures in
    rw none (call_nothing (moment_of c.begin.new.self))

pub loop-self-smaller : goal.loop-self-smaller
loop-self-smaller c =
    let start = c.requires.leads.start in
    let begins = c.loop-self.invariant.stays.begins start c.requires.leads.begins in
    let begun = same_begins start c.loop-self.self c.begin.new.self c.begin.ensures.turn begins in
    let on =
    goes_on start (wanted_by c.none.result) c.loop-self.self c.begin.new.self c.proceed.new.self c.args.step c.args.step c.requires.leads.moment c.in_ok-proceed.field-0 c.none.ensures
    c.begin.ensures.step c.in_ok-proceed.ensures.proceeds.step c.in_ok-proceed.ensures.walked c.proceed.ensures.proceeds.stays.sound.turns
    (c.proceed.ensures.proceeds.stays.begins start begun) (omega arith) c.requires.leads.there in
    omega (arith, on.0, c.loop-self-test.true)

pub returns-clause-there : goal.returns-clause-there
returns-clause-there c = omega (arith, c.loop-self-test.false, c.loop-self.invariant.within)
