-- What a seat's work comes to after one more job.
use Rattle.std.proofs.Common.{◌≡◌, ◌∙◌, ◌<◌, ◌≤◌, ⊎_elim, ℕ, zero, suc, Bool, true, false, true≢false, Some, List, [], ◌∷◌, ◌++◌, length, refl, sym, ap, subst, arith}
use Rattle.std.proofs.lemmas.Bool.{cases_lt}
use Rattle.std.proofs.lemmas.Bool.Decides.{nat_tests}
use Rattle.std.proofs.lemmas.List.{map-append}
use Rattle.std.proofs.lemmas.List.Elements.{All-push}
use Rattle.std.specs.Prelude.{slice_get, is_some, if◌then◌else◌}
use Rattle.guest_memory.specs.Memory.{Memory}
use Rattle.claim_table.specs.declared.log.Log.{Log}
use Rattle.claim_table.specs.Logs.{times, new_log, with_drawn, with_end}
use Rattle.claim_table.specs.Seat.{SeatState}
use Rattle.claim_table.proofs.Totals.{times_push, times_empty}
use Rattle.segment.specs.declared.segment.Segment.{Segment}
use Rattle.parallel_phase.specs.declared.drawn.Drawn.{Drawn}
use Rattle.parallel_phase.specs.declared.outcome.Outcome.{Outcome}
use Rattle.parallel_phase.specs.declared.outcome.Outcome.TheVariants.{Ran, Skipped}
use Rattle.parallel_phase.specs.Outcome.{IsOutcome, ends}
use Rattle.phase_jobs.specs.SharedJobs.{Looks, SawBelow, noted_if}
use Rattle.parallel_phase.specs.Work.{Works, FitsNumber, Fits, HasEnd, AreOutcomes, AreOver, IsOver}

noted_is : (test : Bool) (log : Log) (number : ℕ) → (noted_if test log number).noted ≡ (if test then log.noted ++ number ∷ [] else log.noted)
noted_is true log number = refl
noted_is false log number = refl

rest_is : (test : Bool) (log : Log) (number : ℕ) → ((noted_if test log number).drawn ≡ log.drawn) × ((noted_if test log number).seen ≡ log.seen) × ((noted_if test log number).ended ≡ log.ended)
rest_is true log number = (refl, refl, refl)
rest_is false log number = (refl, refl, refl)

same_outcome : (jobs : List Segment) (memory : Memory) (a b : Log) (number : ℕ) (outcome : Outcome) → b.seen ≡ a.seen → IsOutcome jobs memory a number outcome → IsOutcome jobs memory b number outcome
same_outcome jobs memory a b number (Ran ran) same is = is
same_outcome jobs memory a b number Skipped same is = (is.0, is.1, rw same is.2)

-- a seat drew, looked, and noted where it was to
pub works : (jobs : List Segment) (memory : Memory) (old mid looked new : SeatState) (drawn : Drawn)
    → mid ≡ record old { log = with_drawn old.log drawn.number } → Looks mid looked
    → new ≡ record looked { log = noted_if (ends drawn.outcome) looked.log drawn.number }
    → IsOutcome jobs memory looked.log drawn.number drawn.outcome → length mid.log.drawn ≤ length jobs
    → Works jobs memory old new drawn
works jobs memory old mid looked new drawn drew look noted outcome room =
    let rest = rest_is (ends drawn.outcome) looked.log drawn.number in
    let seen : new.log.seen ≡ looked.log.seen = ap (λ (s : SeatState). s.log.seen) noted ∙ rest.1 in
    let all : new.log.drawn ≡ mid.log.drawn = ap (λ (s : SeatState). s.log.drawn) noted ∙ rest.0 ∙ look.drawn in
    let notes : looked.log.noted ≡ old.log.noted = look.noted ∙ ap (λ (s : SeatState). s.log.noted) drew in
    record {
      row = ap (λ (s : SeatState). s.row) noted ∙ look.row ∙ ap (λ (s : SeatState). s.row) drew;
      number = ap (λ (s : SeatState). s.number) noted ∙ look.number ∙ ap (λ (s : SeatState). s.number) drew;
      drawn_is = all ∙ ap (λ (s : SeatState). s.log.drawn) drew;
      noted = ap (λ (s : SeatState). s.log.noted) noted ∙ noted_is (ends drawn.outcome) looked.log drawn.number ∙ ap (λ (ns : List ℕ). if ends drawn.outcome then ns ++ drawn.number ∷ [] else ns) notes;
      ended = ap (λ (s : SeatState). s.log.ended) noted ∙ rest.2 ∙ look.ended ∙ ap (λ (s : SeatState). s.log.ended) drew;
      seen = λ number was. rw seen (look.seen number (let e = ap (λ (s : SeatState). times number s.log.seen) drew in omega arith));
      outcome = same_outcome jobs memory looked.log new.log drawn.number drawn.outcome seen outcome;
      room = rw all room;
    }

more_seen : (a b : Log) (number : ℕ) → ((k : ℕ) → 0 < times k a.seen → 0 < times k b.seen) → SawBelow a number → SawBelow b number
more_seen a b number seen saw = (saw.0, saw.1, seen saw.0 saw.2)

fits_more : (a b : Log) (number : ℕ) (outcome : Outcome) → ((k : ℕ) → 0 < times k a.seen → 0 < times k b.seen) → FitsNumber a number outcome → FitsNumber b number outcome
fits_more a b number (Ran ran) seen fits = fits
fits_more a b number Skipped seen fits = more_seen a b number seen fits

fits_new : (jobs : List Segment) (memory : Memory) (log : Log) (number : ℕ) (outcome : Outcome) → IsOutcome jobs memory log number outcome → FitsNumber log number outcome
fits_new jobs memory log number (Ran ran) is = is.number_is
fits_new jobs memory log number Skipped is = is

over_new : (jobs : List Segment) (memory : Memory) (log : Log) (number : ℕ) (outcome : Outcome) → IsOutcome jobs memory log number outcome → IsOver jobs memory outcome
over_new jobs memory log number (Ran ran) is = record { number_is = refl; job_is = rw is.number_is is.job_is; memory_is = is.memory_is; over = is.over }
over_new jobs memory log number Skipped is = tt

get_longer : (xs ys : List Drawn) (place : ℕ) (x : Drawn) → slice_get xs place ≡ Some x → slice_get (xs ++ ys) place ≡ Some x
get_longer [] ys place x is = absurd (true≢false (sym (ap is_some is)))
get_longer (z ∷ zs) ys zero x is = is
get_longer (z ∷ zs) ys (suc place) x is = get_longer zs ys place x is

get_last : (xs : List Drawn) (x : Drawn) → slice_get (xs ++ x ∷ []) (length xs) ≡ Some x
get_last [] x = refl
get_last (z ∷ zs) x = get_last zs x

noted_more : (test : Bool) (outcomes : List Drawn) (drawn : Drawn) (noted : List ℕ) → ends drawn.outcome ≡ test
    → ((number : ℕ) → 0 < times number noted → HasEnd outcomes number)
    → (number : ℕ) → 0 < times number (if test then noted ++ drawn.number ∷ [] else noted) → HasEnd (outcomes ++ drawn ∷ []) number
noted_more false outcomes drawn noted is each number was = let old = each number was in (old.0, old.1, get_longer outcomes (drawn ∷ []) old.0 old.1 old.2, old.3, old.4)
noted_more true outcomes drawn noted is each number was = ⊎_elim
    (λ (before : 0 < times number noted). let old = each number before in let end : HasEnd (outcomes ++ drawn ∷ []) number = (old.0, old.1, get_longer outcomes (drawn ∷ []) old.0 old.1 old.2, old.3, old.4) in end)
    (λ (none : times number noted ≤ 0). let more = times_push number drawn.number noted in (length outcomes, drawn, get_last outcomes drawn, grind (arith, nat_tests), is)) (cases_lt 0 (times number noted))

-- one more job
pub outcomes_more : (jobs : List Segment) (memory : Memory) (old new : SeatState) (outcomes : List Drawn) (drawn : Drawn) → Works jobs memory old new drawn → AreOutcomes old.log outcomes → AreOutcomes new.log (outcomes ++ drawn ∷ [])
outcomes_more jobs memory old new outcomes drawn works are = record {
  numbers = map-append (λ (d : Drawn). d.number) outcomes (drawn ∷ []) ∙ ap (λ (ns : List ℕ). ns ++ drawn.number ∷ []) are.numbers ∙ sym works.drawn_is;
  each = All-push (Fits new.log) outcomes drawn (λ k d below. fits_more old.log new.log _ _ works.seen (are.each k d below)) (fits_new jobs memory new.log drawn.number drawn.outcome works.outcome);
  noted = λ number was. noted_more (ends drawn.outcome) outcomes drawn old.log.noted refl are.noted number (subst (λ (ns : List ℕ). 0 < times number ns) works.noted was);
}

pub over_more : (jobs : List Segment) (memory : Memory) (old new : SeatState) (outcomes : List Drawn) (drawn : Drawn) → Works jobs memory old new drawn → AreOver jobs memory outcomes → AreOver jobs memory (outcomes ++ drawn ∷ [])
over_more jobs memory old new outcomes drawn works over = All-push (λ (d : Drawn). IsOver jobs memory d.outcome) outcomes drawn over (over_new jobs memory new.log drawn.number drawn.outcome works.outcome)

pub outcomes_end : (old new : SeatState) (outcomes : List Drawn) → new ≡ record old { log = with_end old.log } → AreOutcomes old.log outcomes → AreOutcomes new.log outcomes
outcomes_end old new outcomes is are = subst (λ (s : SeatState). AreOutcomes s.log outcomes) (sym is) (record { numbers = are.numbers; each = are.each; noted = are.noted })

pub outcomes_none : (log : Log) → log ≡ new_log 1 → AreOutcomes log []
outcomes_none log is = record {
  numbers = ap (λ (l : Log). l.drawn) (sym is);
  each = λ k d below. absurd (omega arith);
  noted = λ number was. let e = ap (λ (l : Log). times number l.noted) is in let none = times_empty number in absurd (omega arith);
}
