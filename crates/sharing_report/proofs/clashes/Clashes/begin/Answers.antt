use Rattle.std.proofs.Common.{◌≡◌, ◌≤◌, ◌<◌, ◌+◌, ◌∙◌, ap, refl, sym, subst, arith, List}
use Rattle.std.specs.Prelude.{slice_index_or}
use Rattle.std.proofs.lemmas.List.{get_or-replicate}
use Rattle.sharing_report.specs.Changers.{IsChanger}
use Rattle.sharing_report.specs.Contested.{threads_at}
use Rattle.sharing_report.specs.Sharing.{same_spot}
use Rattle.sharing_report.specs.declared.changer.Changer.{Changer}
use Rattle.sharing_report.specs.declared.changer.Changer.TheVariants.{Nobody}
use Rattle.sharing_report.proofs.Adding.{none_at_after}
use Rattle.sharing_report.proofs.clashes.Clashes.begin.Goals as goal

pub returns-then-phase-self : goal.returns-then-phase-self
returns-then-phase-self c page marks has upto =
    let least : c.args.self.now.phase ≤ c.args.phase = has.least c.args.phase upto in
    let other = c.if-phase-self.true in
    let after : c.args.self.now.phase < c.args.phase = omega arith in
    let filled = c.fill.ensures.items (λ y same. same) in record {
      phase_is = refl;
      count = has.present.count;
      fits = has.present.fits;
      upto = upto;
      changers = λ place inside.
          let long = c.args.self.now.full in
          let nobody : slice_index_or c.fill.new.self.items place Nobody ≡ Nobody =
          ap (λ (all : List Changer). slice_index_or all place Nobody) filled ∙ get_or-replicate _ place Nobody Nobody (omega (arith, long)) in
          subst (λ (changer : Changer). IsChanger changer (threads_at same_spot marks (record { phase = c.args.phase; address = page + place }))) (sym nobody)
          (none_at_after marks c.args.self.now.phase c.args.phase (page + place) has.present.upto after);
    }
