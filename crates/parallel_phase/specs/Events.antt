-- What the seats of a phase did, as one list of a schedule's events.
use Rattle.std.specs.Prelude.{◌≡◌, ℕ, ◌+◌, ◌<◌, if◌then◌else◌, nat_lt, Option, Some, None, List, [], ◌∷◌, ◌++◌, map, length, replicate, slice_get}
use Rattle.guest_memory.specs.Memory.{Memory}
use Rattle.hart.specs.declared.stop.Stop.{Stop}
use Rattle.hart.specs.declared.stop.Stop.TheVariants.{Trap, Ecall, Quantum}
use Rattle.claim_table.specs.Logs.{times}
use Rattle.claim_table.specs.Seat.{SeatState}
use Rattle.schedule.specs.Phase.{Counts, Leads, Verdicts, opened}
use Rattle.schedule.specs.Verdict.{Verdict, GoesOn, verdict_after}
use Rattle.schedule.specs.declared.event.Event.{Event}
use Rattle.schedule.specs.declared.event.Event.TheVariants.{Draw, Step, Note, Skip, Post}
use Rattle.schedule.specs.declared.fate.Fate.{Fate}
use Rattle.schedule.specs.declared.fate.Fate.TheVariants as fate
use Rattle.parallel_phase.specs.Work.{WorkState}
use Rattle.segment.specs.declared.segment.Segment.{Segment}
use Rattle.parallel_phase.specs.declared.outcome.Outcome.{Outcome}
use Rattle.parallel_phase.specs.declared.outcome.Outcome.TheVariants.{Ran, Skipped}

-- what a job on this memory comes to after so many steps; a number that is no job's has no end
abbrev pub verdict_of_job : Memory → Option Segment → ℕ → Verdict
verdict_of_job memory None steps = GoesOn
verdict_of_job memory (Some job) steps = verdict_after job.hart memory job.left job.quantum steps

abbrev pub verdicts : List Segment → Memory → Verdicts
verdicts jobs memory = λ number. verdict_of_job memory (slice_get jobs number)

-- a job that was run is posted, and a skipped one skipped
abbrev pub fate_of : Outcome → Fate
fate_of (Ran ran) = fate.Posted
fate_of Skipped = fate.Skipped

-- how many steps a segment with this stop and count takes: the last one is the stop, which a call counts already
abbrev pub steps_to : Stop → ℕ → ℕ
steps_to (Trap trap) count = count + 1
steps_to Ecall count = count
steps_to Quantum count = count + 1

-- the note of a job, where its seat noted it
abbrev pub notes_of : SeatState → ℕ → List Event
notes_of seat number = if nat_lt 0 (times number seat.log.noted) then Note seat.number ∷ [] else []

-- the events by which the worker of a seat takes a job from its draw to its outcome
abbrev pub events_of : SeatState → ℕ → Outcome → List Event
events_of seat number (Ran ran) = Draw seat.number ∷ (replicate (steps_to ran.end.stop ran.end.count) (Step seat.number) ++ (notes_of seat number ++ (Post seat.number ∷ [])))
events_of seat number Skipped = Draw seat.number ∷ Skip seat.number ∷ []

-- The events take the jobs from this number on to these outcomes, one job after another, each by the worker of a seat that drew it.
unfoldable pub TakeInOrder : List WorkState → ℕ → List Outcome → List Event → Type 0
TakeInOrder works number [] events = events ≡ []
TakeInOrder works number (outcome ∷ outcomes) events =
    (place : ℕ) × (work : WorkState) × (rest : List Event) × (slice_get works place ≡ Some work) × (0 < times number work.seat.log.drawn) × (events ≡ events_of work.seat number outcome ++ rest)
    × TakeInOrder works (number + 1) outcomes rest

-- The events, each enabled, lead from the beginning of a phase of these jobs to one where exactly those that were run are posted, and the
-- others skipped.
pub record LeadTo (jobs : List Segment) (memory : Memory) (workers : ℕ) (events : List Event) (outcomes : List Outcome) : Type 0 where
  pub after : Counts
  pub leads : Leads (verdicts jobs memory) (opened (length jobs) workers) events after
  pub fates : after.fates ≡ map fate_of outcomes

-- one list of events takes the jobs in order by the seats of these works, each event enabled, and leads to these outcomes
abbrev pub AreByEvents : List Segment → Memory → List WorkState → List Outcome → Type 0
AreByEvents jobs memory works outcomes = (events : List Event) × TakeInOrder works 0 outcomes events × LeadTo jobs memory (length works) events outcomes
