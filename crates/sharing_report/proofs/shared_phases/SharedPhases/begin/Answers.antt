use Rattle.std.proofs.Common.{◌≤◌, ◌<◌, refl, sym, arith}
use Rattle.sharing_report.proofs.Adding.{none_after}
use Rattle.sharing_report.proofs.shared_phases.SharedPhases.begin.Goals as goal

pub returns-then-phase-self : goal.returns-then-phase-self
returns-then-phase-self c marks has upto =
    let least : c.args.self.now.phase ≤ c.args.phase = has.least c.args.phase upto in
    let other = c.if-phase-self.true in
    let after : c.args.self.now.phase < c.args.phase = omega arith in record {
      phase_is = refl;
      count = has.present.count;
      fits = has.present.fits;
      upto = upto;
      changer = none_after marks c.args.self.now.phase c.args.phase has.present.upto after;
    }
