use Rattle.std.proofs.Common.{refl, arith}
use Rattle.sharing_report.specs.Contested.{contested_count}
use Rattle.sharing_report.proofs.shared_phases.SharedPhases.new.Goals as goal

pub returns : goal.returns
unfolding contested_count
returns c = record {
  present = record { phase_is = refl; count = refl; fits = omega arith; upto = λ k d inside. absurd (omega arith); changer = refl };
  least = λ bound all. omega arith;
}
