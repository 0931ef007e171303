use Rattle.std.proofs.Common.{◌≡◌, ◌≤◌, ◌+◌, ◌++◌, ◌&&◌, not, ◌∷◌, [], ℕ, List, Bool, cond, eqb, refl, sym, subst, ap, ◌∙◌, arith, length, length-append}
use Rattle.std.specs.Cmp.{nat_eq_equiv}
use Rattle.std.specs.List.{All}
use Rattle.std.proofs.lemmas.List.Elements.{All-push}
use Rattle.sharing_report.specs.Changers.{IsChanger, two_of}
use Rattle.sharing_report.specs.Contested.{contested_count, threads_at}
use Rattle.sharing_report.specs.Tallies.{IsInPhase, CountsShared}
use Rattle.sharing_report.specs.declared.changer.Changer.{Changer}
use Rattle.sharing_report.specs.declared.mark.Mark.{Mark}
use Rattle.sharing_report.specs.declared.shared_phases.SharedPhases.{SharedPhases}
use Rattle.sharing_report.proofs.Adding.{All-last, counted_on}
use Rattle.sharing_report.proofs.Places.{contested_count-snoc, threads_at_here}
use Rattle.sharing_report.proofs.shared_phases.SharedPhases.add.Goals as goal

-- a thread more at the present phase
counted_more : (begun : SharedPhases) (phase thread new : ℕ) (changer : Changer) (second : Bool) (marks : List (Mark ℕ)) → IsInPhase begun phase marks
    → IsChanger changer (threads_at eqb marks phase ++ thread ∷ []) → second ≡ (not (two_of (threads_at eqb marks phase)) && two_of (threads_at eqb marks phase ++ thread ∷ []))
    → new ≡ begun.count + cond second 1 0 → new ≤ begun.count + 1
    → CountsShared (record { phase = begun.phase; changer = changer; count = new }) (marks ++ record { place = phase; thread = thread } ∷ [])
counted_more begun phase thread new changer second marks at is told stepped few =
    let mark : Mark ℕ = record { place = phase; thread = thread } in
    let more : List (Mark ℕ) = marks ++ mark ∷ [] in
    let made : SharedPhases = record { phase = begun.phase; changer = changer; count = new } in
    let fits = at.fits in record {
      present = subst (λ (p : ℕ). IsInPhase made p more) (sym at.phase_is) (record {
        phase_is = at.phase_is;
        count = counted_on begun.count new second (not (two_of (threads_at eqb marks phase)) && two_of (threads_at eqb marks phase ++ thread ∷ [])) (contested_count eqb marks) (contested_count eqb more)
            at.count told (contested_count-snoc nat_eq_equiv marks mark) stepped;
        fits = omega (arith, length-append marks (mark ∷ []));
        upto = All-push (λ (one : Mark ℕ). one.place ≤ phase) marks mark at.upto (omega arith);
        changer = subst (IsChanger changer) (sym (threads_at_here nat_eq_equiv marks mark)) is;
      });
      least = λ bound all. let last = All-last (λ (one : Mark ℕ). one.place ≤ bound) marks mark all in subst (λ (p : ℕ). p ≤ bound) (sym at.phase_is) last;
    }

pub returns-then-add : goal.returns-then-add
returns-then-add c marks has upto few =
    let begun = c.begin.new.self in
    let at = c.begin.ensures marks has upto in
    let fits = at.fits in
    let added = c.saturating_add-self.ensures in
    let told = sym c.if-add.true ∙ c.add.ensures.second (threads_at eqb marks c.args.phase) at.changer in
    counted_more begun c.args.phase c.args.thread c.saturating_add-self.result c.add.new.self _ marks at
    (c.add.ensures.changer (threads_at eqb marks c.args.phase) at.changer) told (omega arith) (omega arith)

pub returns-else-add : goal.returns-else-add
returns-else-add c marks has upto few =
    let begun = c.begin.new.self in
    let at = c.begin.ensures marks has upto in
    let told = sym c.if-add.false ∙ c.add.ensures.second (threads_at eqb marks c.args.phase) at.changer in
    counted_more begun c.args.phase c.args.thread begun.count c.add.new.self _ marks at
    (c.add.ensures.changer (threads_at eqb marks c.args.phase) at.changer) told (omega arith) (omega arith)
