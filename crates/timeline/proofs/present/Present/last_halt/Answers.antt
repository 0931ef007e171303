use Rattle.std.proofs.Common.{◌≡◌, None, sym, arith}
use Rattle.timeline.specs.Halts.{wanted_by}
use Rattle.timeline.specs.Present.{step_of}
use Rattle.timeline.proofs.Backing.{then_found}
use Rattle.timeline.proofs.present.Present.last_halt.Goals as goal

pub loop-self-preserved : goal.loop-self-preserved
loop-self-preserved c =
    let invariant = c.loop-self.invariant in
    let pass = c.in_ok-found.ensures in
    let skip = c.in_ok-skip.ensures in
    let wanted = wanted_by c.args.stops.now in
    record {
      stays = record {
        sound = c.skip.ensures.stays.sound;
        begins = λ start begins. c.skip.ensures.stays.begins start (c.pass.ensures.stays.begins start (invariant.stays.begins start begins));
      };
      since = omega (arith, invariant.since, pass.further, skip.since);
      within = skip.within;
      found = λ start begins.
          let here = invariant.stays.begins start begins in
          let passed =
          then_found wanted start (step_of c.args.self.now) (step_of c.loop-self.self) (step_of c.pass.new.self) c.loop-self.last c.in_ok-found.found invariant.since (omega (arith, pass.further))
          (invariant.found start begins) (pass.found start here) in
          let found = rw (sym c.or-last.ensures) at passed in
          then_found wanted start (step_of c.args.self.now) (step_of c.pass.new.self) (step_of c.skip.new.self) c.or-last.result None (omega (arith, invariant.since, pass.further)) skip.since found
          (skip.silent start (c.pass.ensures.stays.begins start here));
    }

pub returns : goal.returns
returns c = λ start begins.
    let until : step_of c.loop-self.self ≡ c.args.until = omega (arith, c.loop-self-test.false, c.loop-self.invariant.within) in
    rw until at (c.loop-self.invariant.found start begins)
