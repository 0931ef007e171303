-- Looks of a seat, one after another.
use Rattle.std.proofs.Common.{◌≡◌, ◌∙◌, ◌+◌, ◌<◌, ◌≤◌, ℕ, Some, zero, suc, List, [], ◌∷◌, length, get_or, refl, sym, ap, subst, arith, ⊎_elim}
use Rattle.std.proofs.lemmas.Bool.{cases_lt}
use Rattle.std.proofs.lemmas.Bool.Decides.{nat_tests}
use Rattle.std.specs.Prelude.{slice_get}
use Rattle.claim_table.specs.Logs.{times, with_seen}
use Rattle.claim_table.proofs.Totals.{times_empty, times_push, drawn_here}
use Rattle.claim_table.specs.Seat.{SeatState}
use Rattle.segment.specs.declared.segment.Segment.{Segment}
use Rattle.phase_jobs.specs.SharedJobs.{Looks, SawBelow}

pub looks_none : (seat : SeatState) → Looks seat seat
looks_none seat = record { row = refl; number = refl; seats = refl; drawn = refl; noted = refl; ended = refl; seen = λ number was. was }

pub looks_again : (a b c : SeatState) → Looks a b → Looks b c → Looks a c
looks_again a b c first then = record {
  row = then.row ∙ first.row;
  number = then.number ∙ first.number;
  seats = then.seats ∙ first.seats;
  drawn = then.drawn ∙ first.drawn;
  noted = then.noted ∙ first.noted;
  ended = then.ended ∙ first.ended;
  seen = λ number was. then.seen number (first.seen number was);
}

-- a look that saw a number
pub looks_at : (old new : SeatState) (least : ℕ) → new ≡ record old { log = with_seen old.log least } → Looks old new
looks_at old new least is = record {
  row = ap (λ (s : SeatState). s.row) is;
  number = ap (λ (s : SeatState). s.number) is;
  seats = ap (λ (s : SeatState). s.log.seats) is;
  drawn = ap (λ (s : SeatState). s.log.drawn) is;
  noted = ap (λ (s : SeatState). s.log.noted) is;
  ended = ap (λ (s : SeatState). s.log.ended) is;
  seen = λ number was. let e = ap (λ (s : SeatState). times number s.log.seen) is in let more = times_push number least old.log.seen in omega arith;
}

pub saw_below : (old new : SeatState) (least number : ℕ) → new ≡ record old { log = with_seen old.log least } → least < number → SawBelow new.log number
saw_below old new least number is below = (least, below, let e = ap (λ (s : SeatState). times least s.log.seen) is in let here = drawn_here least old.log.seen in omega arith)

-- a look at the least of the numbers that were noted or seen saw none below one that is no greater
pub saw_none_below : (old new : SeatState) (least number : ℕ) → new ≡ record old { log = with_seen old.log least }
    → ((other : ℕ) → 0 < times other old.log.noted + times other old.log.seen → least ≤ other) → number ≤ least → ¬ SawBelow new.log number
saw_none_below old new least number is lowest above saw =
    let e = ap (λ (s : SeatState). times saw.0 s.log.seen) is in
    let more = times_push saw.0 least old.log.seen in
    let below = saw.1 in
    let here = saw.2 in
    ⊎_elim
    (λ (few : times saw.0 old.log.seen < 1). grind (arith, nat_tests))
    (λ (some : 1 ≤ times saw.0 old.log.seen). let low = lowest saw.0 (omega arith) in omega arith)
    (cases_lt (times saw.0 old.log.seen) 1)

-- where nothing was seen, no lower number was
pub saw_nothing : (seen : List ℕ) (number : ℕ) → seen ≡ [] → ¬ ((least : ℕ) × (least < number) × (0 < times least seen))
saw_nothing seen number none saw =
    let here : 0 < times saw.0 [] = subst (λ (list : List ℕ). 0 < times saw.0 list) none saw.2 in
    let empty = times_empty saw.0 in
    omega arith

pub job_at : (jobs : List Segment) (number : ℕ) (job : Segment) → number < length jobs → job ≡ get_or jobs number job → slice_get jobs number ≡ Some job
job_at [] number job inside is = absurd (omega arith)
job_at (x ∷ xs) zero job inside is = ap Some (sym is)
job_at (x ∷ xs) (suc number) job inside is = job_at xs number job (omega arith) is
