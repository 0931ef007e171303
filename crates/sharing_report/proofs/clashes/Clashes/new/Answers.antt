use Rattle.std.proofs.Common.{◌≡◌, ◌∙◌, ap, refl, sym, subst, arith, List, []}
use Rattle.std.specs.Prelude.{slice_index_or}
use Rattle.std.proofs.lemmas.List.{get_or-replicate}
use Rattle.sharing_report.specs.Changers.{IsChanger}
use Rattle.sharing_report.specs.Contested.{contested_count}
use Rattle.sharing_report.specs.declared.changer.Changer.{Changer}
use Rattle.sharing_report.specs.declared.changer.Changer.TheVariants.{Nobody}
use Rattle.sharing_report.proofs.clashes.Clashes.new.Goals as goal

pub returns : goal.returns
unfolding contested_count
returns c page =
    let made = c.in_ok-vec.ensures.items_if_clones_equal (λ y same. same) in record {
      present = record {
        phase_is = refl;
        count = refl;
        fits = omega arith;
        upto = λ k d inside. absurd (omega arith);
        changers = λ place inside.
            let nobody : slice_index_or c.in_ok-vec.field-0.items place Nobody ≡ Nobody =
            ap (λ (all : List Changer). slice_index_or all place Nobody) made ∙ get_or-replicate 4096 place Nobody Nobody inside in
            subst (λ (changer : Changer). IsChanger changer []) (sym nobody) refl;
      };
      least = λ bound all. omega arith;
    }
