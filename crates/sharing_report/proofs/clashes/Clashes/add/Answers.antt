use Rattle.std.proofs.Common.{◌≡◌, ◌≤◌, ◌<◌, ◌+◌, ◌++◌, ◌&&◌, not, ◌∷◌, [], ℕ, List, Bool, true, false, cond, eqb, set, refl, sym, subst, ap, ◌∙◌, arith, length, length-append, ⊎_elim}
use Rattle.std.specs.Prelude.{slice_index_or}
use Rattle.std.proofs.lemmas.Bool.{and_right, cases_eq, ne_eqb}
use Rattle.std.proofs.lemmas.List.{get_or-set_same, get_or-set_other, get_or_read}
use Rattle.std.proofs.lemmas.List.Elements.{All-push}
use Rattle.sharing_report.specs.Changers.{IsChanger, two_of}
use Rattle.sharing_report.specs.Contested.{contested_count, threads_at}
use Rattle.sharing_report.specs.Sharing.{same_spot}
use Rattle.sharing_report.specs.Tallies.{IsPhaseOfPage, CountsClashes}
use Rattle.sharing_report.specs.declared.changer.Changer.{Changer}
use Rattle.sharing_report.specs.declared.changer.Changer.TheVariants.{Nobody}
use Rattle.sharing_report.specs.declared.clashes.Clashes.{Clashes}
use Rattle.sharing_report.specs.declared.mark.Mark.{Mark}
use Rattle.sharing_report.specs.declared.mark.PhaseAddress.{PhaseAddress}
use Rattle.sharing_report.proofs.Adding.{All-last, counted_on, spot_laws}
use Rattle.sharing_report.proofs.Places.{contested_count-snoc, threads_at_apart, threads_at_here}
use Rattle.sharing_report.proofs.clashes.Clashes.add.Goals as goal

-- who changed each byte once a thread changed one of them
placed : (items : List Changer) (page phase place thread : ℕ) (changer : Changer) (marks : List (Mark PhaseAddress)) → place < length items
    → ((other : ℕ) → other < 4096 → IsChanger (slice_index_or items other Nobody) (threads_at same_spot marks (record { phase = phase; address = page + other })))
    → IsChanger changer (threads_at same_spot marks (record { phase = phase; address = page + place }) ++ thread ∷ [])
    → (other : ℕ) → other < 4096
    → IsChanger (slice_index_or (set items place changer) other Nobody)
    (threads_at same_spot (marks ++ record { place = record { phase = phase; address = page + place }; thread = thread } ∷ []) (record { phase = phase; address = page + other }))
placed items page phase place thread changer marks inside were is other small = ⊎_elim here apart (cases_eq other place)
  where
    mark : Mark PhaseAddress
    mark = record { place = record { phase = phase; address = page + place }; thread = thread }

    spot : ℕ → PhaseAddress
    spot at = record { phase = phase; address = page + at }

    here : other ≡ place → IsChanger (slice_index_or (set items place changer) other Nobody) (threads_at same_spot (marks ++ mark ∷ []) (spot other))
    here same =
        subst (λ (n : ℕ). IsChanger (slice_index_or (set items place changer) n Nobody) (threads_at same_spot (marks ++ mark ∷ []) (spot n))) (sym same)
        (subst (λ (one : Changer). IsChanger one (threads_at same_spot (marks ++ mark ∷ []) (spot place))) (sym (get_or-set_same items place changer Nobody inside))
        (subst (IsChanger changer) (sym (threads_at_here spot_laws marks mark)) is))

    apart : (other ≡ place → ⊥) → IsChanger (slice_index_or (set items place changer) other Nobody) (threads_at same_spot (marks ++ mark ∷ []) (spot other))
    apart different =
        let off : same_spot (spot other) (spot place) ≡ false = and_right (eqb phase phase) (eqb (page + other) (page + place)) (ne_eqb (page + other) (page + place) (λ same. different (omega arith))) in
        subst (λ (one : Changer). IsChanger one (threads_at same_spot (marks ++ mark ∷ []) (spot other))) (sym (get_or-set_other items place other changer Nobody different))
        (subst (IsChanger (slice_index_or items other Nobody)) (sym (threads_at_apart spot_laws marks mark (spot other) off)) (were other small))

-- a thread more at a place of the present phase
counted_more : (begun made : Clashes) (page phase place thread : ℕ) (changer : Changer) (second : Bool) (marks : List (Mark PhaseAddress)) → place < length begun.changers.items → IsPhaseOfPage begun page phase marks
    → made.phase ≡ begun.phase → made.changers.items ≡ set begun.changers.items place changer
    → IsChanger changer (threads_at same_spot marks (record { phase = phase; address = page + place }) ++ thread ∷ [])
    → second ≡ (not (two_of (threads_at same_spot marks (record { phase = phase; address = page + place }))) && two_of (threads_at same_spot marks (record { phase = phase; address = page + place }) ++ thread ∷ []))
    → made.count ≡ begun.count + cond second 1 0 → made.count ≤ begun.count + 1
    → CountsClashes made page (marks ++ record { place = record { phase = phase; address = page + place }; thread = thread } ∷ [])
counted_more begun made page phase place thread changer second marks inside at phase_is items_are is told stepped few =
    let mark : Mark PhaseAddress = record { place = record { phase = phase; address = page + place }; thread = thread } in
    let more : List (Mark PhaseAddress) = marks ++ mark ∷ [] in
    let threads : List ℕ = threads_at same_spot marks mark.place in
    let fits = at.fits in
    let now : made.phase ≡ phase = phase_is ∙ at.phase_is in record {
      present = subst (λ (p : ℕ). IsPhaseOfPage made page p more) (sym now) (record {
        phase_is = now;
        count = counted_on begun.count made.count second (not (two_of threads) && two_of (threads ++ thread ∷ [])) (contested_count same_spot marks) (contested_count same_spot more)
            at.count told (contested_count-snoc spot_laws marks mark) stepped;
        fits = omega (arith, length-append marks (mark ∷ []));
        upto = All-push (λ (one : Mark PhaseAddress). one.place.phase ≤ phase) marks mark at.upto (omega arith);
        changers = subst (λ (items : List Changer). (other : ℕ) → other < 4096 → IsChanger (slice_index_or items other Nobody) (threads_at same_spot more (record { phase = phase; address = page + other }))) (sym items_are)
            (placed begun.changers.items page phase place thread changer marks inside at.changers is);
      });
      least = λ bound all. let last = All-last (λ (one : Mark PhaseAddress). one.place.phase ≤ bound) marks mark all in subst (λ (p : ℕ). p ≤ bound) (sym now) last;
    }

pub returns-then-is_second : goal.returns-then-is_second
returns-then-is_second c page marks has upto few =
    let begun = c.begin.new.self in
    let at = c.begin.ensures page marks has upto in
    let fits = at.fits in
    let long = begun.full in
    let small = c.requires in
    let inside : c.args.place < length begun.changers.items = omega (arith, begun.changers.ok.0, long) in
    let threads : List ℕ = threads_at same_spot marks (record { phase = c.args.phase; address = page + c.args.place }) in
    let read = get_or_read begun.changers.items c.args.place c.index.result.now inside c.index.ensures Nobody in
    let was : IsChanger c.index.result.now threads = subst (λ (one : Changer). IsChanger one threads) (sym read) (at.changers c.args.place small) in
    let added = c.saturating_add-self.ensures in
    counted_more begun _ page c.args.phase c.args.place c.args.thread c.add-is_second.new.self true marks inside at refl refl
    (c.add-is_second.ensures.changer threads was) (sym c.if-is_second.true ∙ c.add-is_second.ensures.second threads was) (omega arith) (omega arith)

pub returns-else-is_second : goal.returns-else-is_second
returns-else-is_second c page marks has upto few =
    let begun = c.begin.new.self in
    let at = c.begin.ensures page marks has upto in
    let fits = at.fits in
    let long = begun.full in
    let small = c.requires in
    let inside : c.args.place < length begun.changers.items = omega (arith, begun.changers.ok.0, long) in
    let threads : List ℕ = threads_at same_spot marks (record { phase = c.args.phase; address = page + c.args.place }) in
    let read = get_or_read begun.changers.items c.args.place c.index.result.now inside c.index.ensures Nobody in
    let was : IsChanger c.index.result.now threads = subst (λ (one : Changer). IsChanger one threads) (sym read) (at.changers c.args.place small) in
    counted_more begun _ page c.args.phase c.args.place c.args.thread c.add-is_second.new.self false marks inside at refl refl
    (c.add-is_second.ensures.changer threads was) (sym c.if-is_second.false ∙ c.add-is_second.ensures.second threads was) (omega arith) (omega arith)
