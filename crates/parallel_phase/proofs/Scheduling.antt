-- What a phase's seats did, as one list of events.
use Rattle.std.proofs.Common.{◌≡◌, ◌∙◌, ◌+◌, ◌<◌, ◌≤◌, ⊎_elim, ℕ, zero, suc, Bool, true, false, true≢false, Option, Some, None, List, [], ◌∷◌, ◌++◌, map, length, length-append, replicate, All, refl, sym, ap, subst, arith}
use Rattle.std.proofs.lemmas.Bool.{cases_lt}
use Rattle.std.proofs.lemmas.Bool.Decides.{nat_tests}
use Rattle.std.proofs.lemmas.List.{append_assoc}
use Rattle.std.proofs.lemmas.Option.{slice_get_within}
use Rattle.std.specs.Prelude.{slice_get, min, nat_lt, if◌then◌else◌, option_and_then, Result, Ok, Err, IfOk}
use Rattle.guest_memory.specs.Memory.{Memory}
use Rattle.paged_memory.specs.Snapshot.{cells_of}
use Rattle.hart.specs.HartState.{HartState}
use Rattle.hart.specs.Next.{next}
use Rattle.hart.specs.Segment as of_hart
use Rattle.hart.specs.Segment.{after, stop_at, stop_after, counted}
use Rattle.hart.specs.declared.stop.Stop.{Stop}
use Rattle.hart.specs.declared.stop.Stop.TheVariants.{Trap, Ecall, Quantum}
use Rattle.claim_table.specs.Logs.{times, total}
use Rattle.claim_table.specs.Seat.{SeatState}
use Rattle.schedule.specs.Phase.{Counts, Leads, Verdicts, opened}
use Rattle.schedule.specs.Verdict.{GoesOn, Stops, EndsRun, ends_run, verdict_of, verdict_in, verdict_after}
use Rattle.schedule.specs.declared.event.Event.{Event}
use Rattle.schedule.specs.declared.fate.Fate.{Fate}
use Rattle.schedule.specs.declared.fate.Fate.TheVariants as fate
use Rattle.parallel_phase.specs.Events.{AreByEvents, TakeInOrder, LeadTo, events_of, fate_of, steps_to, verdict_of_job, verdicts}
use Rattle.parallel_phase.specs.Ran.{IsRanOf}
use Rattle.parallel_phase.specs.Outcomes.{AreFates, IsWhole, filed}
use Rattle.parallel_phase.specs.Outcome.{ends}
use Rattle.phase_jobs.specs.SharedJobs.{PhaseState, SawBelow}
use Rattle.parallel_phase.specs.Work.{WorkState, FitsNumber, Fits}
use Rattle.segment.specs.declared.segment.Segment.{Segment}
use Rattle.parallel_phase.specs.declared.outcome.Outcome.{Outcome}
use Rattle.parallel_phase.specs.declared.outcome.Outcome.TheVariants.{Ran, Skipped}
use Rattle.parallel_phase.proofs.Events.{idle, does_nothing, leads_on, least_after, ran_one, skipped_one}
use Rattle.parallel_phase.proofs.Fates.{AreWorks, all_at, at_number, counted_by, drawn_by, drawn_of, filed_length, logs_of, nothing_there, number_at, numbers, once, part_of_total, some_is, stands_once, total_drawn, work_of}

-- how often a number was noted
abbrev pub noted_in : List WorkState → ℕ → ℕ
noted_in works number = total (λ log. times number log.noted) (logs_of works)

-- a number is at most each that was noted below another one
abbrev pub IsLeast : List WorkState → ℕ → ℕ → Type 0
IsLeast works number least = (k : ℕ) → k < number → 0 < noted_in works k → least ≤ k

-- how a job that was run came to its stop, and why another one was skipped
abbrev pub Came : Verdicts → List WorkState → ℕ → SeatState → Outcome → Type 0
Came v works number seat (Ran ran) =
    (steps : ℕ) × (test : Bool) × (steps_to ran.end.stop ran.end.count ≡ suc steps) × ((k : ℕ) → k < steps → v number k ≡ GoesOn) × (v number steps ≡ (if test then EndsRun else Stops)) × (0 < times number seat.log.noted → test ≡ true)
Came v works number seat Skipped = (least : ℕ) × (least < number) × (0 < noted_in works least) × (noted_in works number ≡ 0)

-- the work of the seat that drew a job, and noted it where it was noted
pub record Knows (v : Verdicts) (works : List WorkState) (number : ℕ) (outcome : Outcome) : Type 0 where
  pub place : ℕ
  pub work : WorkState
  pub there : slice_get works place ≡ Some work
  pub inside : work.seat.number < length works
  pub drawn : 0 < times number work.seat.log.drawn
  pub noted : 0 < noted_in works number → 0 < times number work.seat.log.noted
  pub came : Came v works number work.seat outcome

test_true : (n : ℕ) → nat_lt 0 n ≡ true → 0 < n
test_true n is = grind (arith, nat_tests)

test_false : (n : ℕ) → nat_lt 0 n ≡ false → n ≡ 0
test_false n is = grind (arith, nat_tests)

least_kept : (works : List WorkState) (number least : ℕ) (noted : Bool) → IsLeast works number least → (noted ≡ false → noted_in works number ≡ 0) → IsLeast works (number + 1) (least_after noted least number)
least_kept works number least true is none k below some = ⊎_elim
    (λ (less : k < number). let e = is k less some in let e2 : min least number ≤ k = grind (arith, nat_tests) in e2)
    (λ (same : number ≤ k). let e2 : min least number ≤ k = grind (arith, nat_tests) in e2)
    (cases_lt k number)
least_kept works number least false is none k below some = ⊎_elim
    (λ (less : k < number). is k less some)
    (λ (same : number ≤ k). let e : k ≡ number = omega arith in let not_so = none refl in let here = subst (λ (n : ℕ). 0 < noted_in works n) e some in absurd (omega arith))
    (cases_lt k number)

one_job : (v : Verdicts) (works : List WorkState) (number least : ℕ) (past future : List Fate) (seat : SeatState) (outcome : Outcome) → length past ≡ number → IsLeast works number least
    → seat.number < length works → (0 < noted_in works number → 0 < times number seat.log.noted) → Came v works number seat outcome
    → (below : ℕ) × IsLeast works (number + 1) below × Leads v (idle number least (past ++ fate.Open ∷ future) (length works)) (events_of seat number outcome) (idle (number + 1) below (past ++ fate_of outcome ∷ future) (length works))
one_job v works number least past future seat (Ran ran) long is inside noted came =
    let test = nat_lt 0 (times number seat.log.noted) in (
      least_after test least number,
      least_kept works number least test is (λ none. let zero_times = test_false (times number seat.log.noted) none in ⊎_elim (λ (some : 0 < noted_in works number). let more = noted some in absurd (omega arith)) (λ (no : noted_in works number ≤ 0). let e : noted_in works number ≡ 0 = omega arith in e) (cases_lt 0 (noted_in works number))),
      ran_one v least past future (length works) seat.number inside number came.0 (steps_to ran.end.stop ran.end.count) came.1 test long came.2 came.3 came.4 (λ so. came.5 (test_true (times number seat.log.noted) so)),
    )
one_job v works number least past future seat Skipped long is inside noted came = (
  least,
  least_kept works number least false is (λ no. came.3),
  skipped_one v least past future (length works) seat.number inside number long (let below = is came.0 came.1 came.2 in let less = came.1 in omega arith),
)

pub all_jobs : (v : Verdicts) (works : List WorkState) (number least : ℕ) (past : List Fate) (outcomes : List Outcome) → length past ≡ number → IsLeast works number least
    → ((place : ℕ) (outcome : Outcome) (k : ℕ) → slice_get outcomes place ≡ Some outcome → k ≡ number + place → Knows v works k outcome)
    → (events : List Event) × (last : Counts) × TakeInOrder works number outcomes events × Leads v (idle number least (past ++ replicate (length outcomes) fate.Open) (length works)) events last × (last.fates ≡ past ++ map fate_of outcomes)
unfolding TakeInOrder
all_jobs v works number least past [] long is each = ([], idle number least (past ++ []) (length works), refl, does_nothing v _, refl)
all_jobs v works number least past (o ∷ os) long is each =
    let knows = each 0 o number refl (omega arith) in
    let waiting = replicate (length os) fate.Open in
    let one = one_job v works number least past waiting knows.work.seat o long is knows.inside knows.noted knows.came in
    let after_it = past ++ fate_of o ∷ [] in
    let longer : length after_it ≡ number + 1 = let both = length-append past (fate_of o ∷ []) in omega arith in
    let rest = all_jobs v works (number + 1) one.0 after_it os longer one.1 (λ place outcome k found is_k. each (suc place) outcome k found (omega arith)) in
    let more = subst (λ (fates : List Fate). Leads v (idle (number + 1) one.0 fates (length works)) rest.0 rest.1) (append_assoc past (fate_of o ∷ []) waiting) rest.3 in (
      events_of knows.work.seat number o ++ rest.0,
      rest.1,
      (knows.place, knows.work, rest.0, knows.there, knows.drawn, refl, rest.2),
      leads_on v _ _ _ (events_of knows.work.seat number o) rest.0 one.2 more,
      rest.4 ∙ append_assoc past (fate_of o ∷ []) (map fate_of os),
    )

pub scheduled : (jobs : List Segment) (memory : Memory) (works : List WorkState) (outcomes : List Outcome) → length outcomes ≡ length jobs
    → ((number : ℕ) (outcome : Outcome) → slice_get outcomes number ≡ Some outcome → Knows (verdicts jobs memory) works number outcome)
    → (events : List Event) × TakeInOrder works 0 outcomes events × LeadTo jobs memory (length works) events outcomes
unfolding opened
scheduled jobs memory works outcomes long each =
    let all = all_jobs (verdicts jobs memory) works 0 (length jobs) [] outcomes refl (λ k below some. absurd (omega arith)) (λ place outcome k found is_k. subst (λ (n : ℕ). Knows (verdicts jobs memory) works n outcome) (let e : place ≡ k = omega arith in e) (each place outcome found)) in
    let leads = subst (λ (n : ℕ). Leads (verdicts jobs memory) (idle 0 (length jobs) (replicate n fate.Open) (length works)) all.0 all.1) long all.3 in
    (all.0, all.2, record { after = all.1; leads = leads; fates = all.4 })

-- what a segment comes to at each step
goes_at : (left : ℕ) (quantum : Option ℕ) (steps : ℕ) (state : Option (HartState × Memory)) → option_and_then (λ (s : HartState × Memory). stop_at left quantum steps (next s.0 s.1)) state ≡ None → verdict_in left quantum steps state ≡ GoesOn
goes_at left quantum steps None is = refl
goes_at left quantum steps (Some s) is = ap (verdict_of s.0) is

segment_goes : (hart : HartState) (memory : Memory) (left : ℕ) (quantum : Option ℕ) (stop : Stop) (count : ℕ) (last : HartState) (cells : Memory) (s : of_hart.Segment hart memory left quantum stop count last cells) (k : ℕ) → k < s.steps → verdict_after hart memory left quantum k ≡ GoesOn
unfolding verdict_after stop_after
segment_goes hart memory left quantum stop count last cells s k below = goes_at left quantum k (after k hart memory) (s.running k below)

segment_stops : (hart : HartState) (memory : Memory) (left : ℕ) (quantum : Option ℕ) (stop : Stop) (count : ℕ) (last : HartState) (cells : Memory) (s : of_hart.Segment hart memory left quantum stop count last cells)
    → verdict_after hart memory left quantum s.steps ≡ (if ends_run last stop then EndsRun else Stops)
unfolding verdict_after stop_after
segment_stops hart memory left quantum stop count last cells s =
    let there = sym (ap (option_and_then (λ (state : HartState × Memory). stop_at left quantum s.steps (next state.0 state.1))) s.reached) ∙ s.stops in
    ap (verdict_in left quantum s.steps) s.reached ∙ ap (verdict_of last) there

count_steps : (stop : Stop) (steps count : ℕ) → count ≡ counted stop steps → steps_to stop count ≡ suc steps
count_steps (Trap trap) steps count is = omega arith
count_steps Ecall steps count is = omega arith
count_steps Quantum steps count is = omega arith

get_map : {A B : Type 0} (f : A → B) (xs : List A) (place : ℕ) (x : A) → slice_get xs place ≡ Some x → slice_get (map f xs) place ≡ Some (f x)
get_map f [] place x is = absurd (nothing_there place x is)
get_map f (y ∷ ys) zero x is = ap (λ z. Some (f z)) (some_is y x is)
get_map f (y ∷ ys) (suc place) x is = get_map f ys place x is

module _ (phase : PhaseState) (works : List WorkState) (start : List Outcome) (are : AreWorks phase works) (long : length start ≡ length phase.jobs) where
  abbrev ends_as : List Outcome
  ends_as = filed start (drawn_of works)

  -- a noted job was run, and ends the run
  noted_ends : (at : ℕ) (work : WorkState) (number : ℕ) (outcome : Outcome) → slice_get works at ≡ Some work → 0 < times number work.seat.log.noted → slice_get ends_as number ≡ Some outcome → ends outcome ≡ true
  noted_ends at work number outcome is noted found =
      let end = (all_at IsWhole works at work is are.whole).are.noted number noted in
      let place = drawn_by works at work end.0 end.1 is end.2 in
      let there = at_number phase works start place.0 end.1 are long place.1 in
      let here = subst (λ (n : ℕ). slice_get ends_as n ≡ Some end.1.outcome) end.3 there in
      ap ends (some_is outcome end.1.outcome (sym found ∙ here)) ∙ end.4

  drawer : (number : ℕ) → number < length phase.jobs
      → (at : ℕ) × (work : WorkState) × (slice_get works at ≡ Some work) × (0 < times number work.seat.log.drawn) × (0 < noted_in works number → 0 < times number work.seat.log.noted)
  drawer number inside = ⊎_elim
      (λ (some : 0 < noted_in works number).
      let noter = counted_by (λ log. times number log.noted) works some in
      let whole = all_at IsWhole works noter.0 noter.1 noter.2 are.whole in
      let end = whole.are.noted number noter.3 in
      let once_there = subst (λ (n : ℕ). 0 < times n (numbers noter.1.outcomes)) end.3 (stands_once noter.1.outcomes end.0 end.1 end.2) in
      let drew = subst (λ (ns : List ℕ). 0 < times number ns) whole.are.numbers once_there in
      (noter.0, noter.1, noter.2, drew, λ again. noter.3))
      (λ (none : noted_in works number ≤ 0).
      let one = once phase works number are inside in
      let all = total_drawn works number are.whole in
      let by = counted_by (λ log. times number log.drawn) works (omega arith) in
      (by.0, by.1, by.2, by.3, λ some. absurd (omega arith)))
      (cases_lt 0 (noted_in works number))

  -- a skipped job is above one that was noted
  saw_noted : (number : ℕ) → number < length phase.jobs → slice_get ends_as number ≡ Some Skipped → (least : ℕ) × (least < number) × (0 < noted_in works least)
  saw_noted number inside found =
      let one = once phase works number are inside in
      let drawn = number_at (drawn_of works) number (omega arith) in
      let d = drawn.1 in
      let there = at_number phase works start drawn.0 d are long drawn.2 in
      let same : d.outcome ≡ Skipped = some_is d.outcome Skipped (sym there ∙ subst (λ (n : ℕ). slice_get ends_as n ≡ Some Skipped) (sym drawn.3) found) in
      let by = work_of works drawn.0 d drawn.2 in
      let fits = all_at (Fits by.1.seat.log) by.1.outcomes by.3 d by.4 (all_at IsWhole works by.0 by.1 by.2 are.whole).are.each in
      let saw : SawBelow by.1.seat.log d.number = subst (λ (o : Outcome). FitsNumber by.1.seat.log d.number o) same fits in
      let seen = part_of_total (λ log. times saw.0 log.seen) works by.0 by.1 by.2 in
      (saw.0, let less = saw.1 in let is = drawn.3 in omega arith, are.draws.seen_noted saw.0 (omega (arith, seen, saw.2)))

  came_is : (number : ℕ) (at : ℕ) (work : WorkState) (outcome : Outcome) → number < length phase.jobs → slice_get works at ≡ Some work → (0 < noted_in works number → 0 < times number work.seat.log.noted) → slice_get ends_as number ≡ Some outcome
      → AreFates phase.jobs (cells_of phase.base) ends_as → Came (verdicts phase.jobs (cells_of phase.base)) works number work.seat outcome
  came_is number at work (Ran ran) inside is noted found fates =
      let ran_is : IsRanOf phase.jobs (cells_of phase.base) number ran = fates.each number (Ran ran) found in
      let s = ran_is.over.segment_is in
      let memory = cells_of phase.base in (
        s.steps,
        ends_run ran.end.hart ran.end.stop,
        count_steps ran.end.stop s.steps ran.end.count s.count_is,
        λ k below. ap (λ (job : Option Segment). verdict_of_job memory job k) ran_is.job_is ∙ segment_goes _ _ _ _ _ _ _ _ s k below,
        ap (λ (job : Option Segment). verdict_of_job memory job s.steps) ran_is.job_is ∙ segment_stops _ _ _ _ _ _ _ _ s,
        λ some. noted_ends at work number (Ran ran) is some found,
      )
  came_is number at work Skipped inside is noted found fates =
      let saw = saw_noted number inside found in (
        saw.0,
        saw.1,
        saw.2,
        ⊎_elim (λ (some : 0 < noted_in works number). let end : false ≡ true = noted_ends at work number Skipped is (noted some) found in absurd (true≢false (sym end)))
            (λ (none : noted_in works number ≤ 0). let e : noted_in works number ≡ 0 = omega arith in e)
            (cases_lt 0 (noted_in works number)),
      )

  pub knows : (seats : ℕ) → seats ≡ length works → All (λ (seat : SeatState). seat.number < seats) (map (λ (work : WorkState). work.seat) works) → AreFates phase.jobs (cells_of phase.base) ends_as
      → (number : ℕ) (outcome : Outcome) → slice_get ends_as number ≡ Some outcome → Knows (verdicts phase.jobs (cells_of phase.base)) works number outcome
  knows seats all_seats numbered fates number outcome found =
      let inside : number < length phase.jobs = let below = slice_get_within ends_as number outcome found in let same = filed_length start (drawn_of works) in omega arith in
      let by = drawer number inside in
      let seat = all_at (λ (seat : SeatState). seat.number < seats) (map (λ (work : WorkState). work.seat) works) by.0 by.1.seat (get_map (λ (work : WorkState). work.seat) works by.0 by.1 by.2) numbered in
      record {
        place = by.0;
        work = by.1;
        there = by.2;
        inside = omega arith;
        drawn = by.3;
        noted = by.4;
        came = came_is number by.0 by.1 outcome inside by.2 by.4 found fates;
      }

-- so many workers do as well
pub led : {A E : Type 0} (outcomes_of : A → List Outcome) (jobs of_jobs : List Segment) (memory of_memory : Memory) (works : List WorkState) (workers : ℕ) (result : Result A E) → of_jobs ≡ jobs → of_memory ≡ memory → length works ≤ workers
    → IfOk result (λ value. AreByEvents of_jobs of_memory works (outcomes_of value))
    → IfOk result (λ value. (seats : ℕ) × (events : List Event) × (seats ≤ workers) × LeadTo jobs memory seats events (outcomes_of value))
led outcomes_of jobs of_jobs memory of_memory works workers (Ok value) same_jobs same_memory within by =
    (length works, by.0, within, subst (λ (m : Memory). LeadTo jobs m (length works) by.0 (outcomes_of value)) same_memory (subst (λ (js : List Segment). LeadTo js of_memory (length works) by.0 (outcomes_of value)) same_jobs by.2))
led outcomes_of jobs of_jobs memory of_memory works workers (Err error) same_jobs same_memory within by = by
