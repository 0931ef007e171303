use Rattle.std.proofs.Common.{◌≡◌, ◌∙◌, inl, inr, sym, ap, arith}
use Rattle.timeline.specs.Backward.{nothing_at}
use Rattle.timeline.specs.Halts.{wanted_by}
use Rattle.timeline.specs.Line.{start_of}
use Rattle.timeline.specs.Present.{step_of}
use Rattle.timeline.proofs.Backing.{ends_there, leads_to}
use Rattle.timeline.proofs.line.Line.back.Goals as goal

pub last_halt-requires : goal.last_halt-requires
last_halt-requires c =
    let line = c.args.self.now in
    record {
      sound = c.in_ok-scout.ensures.sound;
      few = omega (arith, c.step_number-here.ensures, c.requires.present.few);
      within = omega (arith, c.in_ok-scout.ensures.step, c.at_most.ensures.at_most.step);
      leads =
          leads_to (start_of line) c.in_ok-scout.scout line.present c.step_number-here.result (c.in_ok-scout.ensures.begins (start_of line) c.at_most.ensures.turn) c.requires.begins
          c.requires.present.turns (omega (arith, c.step_number-here.ensures));
    }

pub returns-in-Some-clause-back : goal.returns-in-Some-clause-back
returns-in-Some-clause-back c =
    let line = c.args.self.now in
    let start = start_of line in
    let here : c.step_number-here.result ≡ step_of line.present = c.step_number-here.ensures in
    let found = rw (c.in-Some.is, here) at c.in_ok-found.ensures in
    let last = found start (c.in_ok-scout.ensures.begins start c.at_most.ensures.turn) in
    inl
    (ends_there (wanted_by c.args.stops.now) start (step_of c.in_ok-scout.scout) (step_of line.present) c.in-Some.found.step (step_of c.go_back.new.self.present) c.in-Some.found.halt last
    c.in_ok-go_back-in-Some.ensures.there)

pub returns-clause-back : goal.returns-clause-back
returns-clause-back c =
    let line = c.args.self.now in
    let start = start_of line in
    let here : c.step_number-here.result ≡ step_of line.present = c.step_number-here.ensures in
    let from : c.step_number-from.result ≡ step_of c.in_ok-scout.scout = c.step_number-from.ensures in
    let found = rw (c.in-None.is, here) at c.in_ok-found.ensures in
    let silent = found start (c.in_ok-scout.ensures.begins start c.at_most.ensures.turn) in
    let before = c.at_most.ensures.at_most.step in
    let scout = c.in_ok-scout.ensures.step in
    let there : step_of c.go_back-in-None.new.self.present ≡ step_of c.in_ok-scout.scout =
    omega (arith, c.in_ok-go_back-in-None.ensures.there, from, here, before, scout, c.if-here-eq0.false) in
    inr
    (rw there silent, omega (arith, there, before, scout, here), c.where_nothing_is.ensures ∙ ap nothing_at (from ∙ sym there))
