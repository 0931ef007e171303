-- How the jobs of a phase come to a taker of turns.
use Rattle.std.specs.Prelude.{◌≡◌, ℕ, ◌<◌, ◌≤◌, Bool, true, false, Result, Ok, Err, OnOk, OnErr, List, length, map}
use Rattle.std.specs.List.{range_with_len}
use Rattle.guest_memory.specs.Memory.{Memory}
use Rattle.claim_table.specs.Logs.{most_jobs}
use Rattle.segment.specs.declared.segment.Segment.{Segment}
use Rattle.parallel_phase.specs.declared.taker_stage.TakerStage.{TakerStage}
use Rattle.parallel_phase.specs.declared.taker_stage.TakerStage.TheVariants.{New, Going, Stopped, Failed}

-- how far it is after a call that answered this and made it so many turns
abbrev pub after_call : {E : Type 0} → Result Bool E → ℕ → TakerStage
after_call (Ok true) taken = Going taken
after_call (Ok false) taken = Stopped taken
after_call (Err error) taken = Failed

-- it took the turns of all jobs, or was stopped
abbrev pub IsThrough : List Segment → TakerStage → Type 0
IsThrough jobs New = ⊥
IsThrough jobs (Going taken) = taken ≡ length jobs
IsThrough jobs (Stopped taken) = Unit {0}
IsThrough jobs Failed = ⊥

-- memory was refused before it had all turns: it hasn't begun, goes on after some, or a call of it failed
abbrev pub IsCutShort : List Segment → TakerStage → Type 0
IsCutShort jobs New = Unit {0}
IsCutShort jobs (Going taken) = taken < length jobs
IsCutShort jobs (Stopped taken) = ⊥
IsCutShort jobs Failed = Unit {0}

-- a taker of the turns of these jobs on this memory, at this stage
pub record IsTakerOf (jobs : List Segment) (memory : Memory) (turns_of : List Segment) (begins_with : Memory) (stage wanted : TakerStage) : Type 0 where
  pub jobs_are : turns_of ≡ jobs
  pub memory_is : begins_with ≡ memory
  pub stage_is : stage ≡ wanted

-- The turns of these jobs on this memory may be taken. There are no more jobs than a phase may have. The ends that the host threads tell
-- each other are of these jobs on this memory. The taker takes these turns and hasn't begun.
pub record MayTakeTurns {S : Type 0} (turns_of : S → List Segment) (begins_with : S → Memory) (stage : S → TakerStage)
    (ends_jobs : List Segment) (ends_memory : Memory) (jobs : List Segment) (memory : Memory) (taken_by : S) : Type 0 where
  pub most : length jobs ≤ most_jobs
  pub named : (ends_jobs ≡ jobs) × (ends_memory ≡ memory)
  pub taker : IsTakerOf jobs memory (turns_of taken_by) (begins_with taken_by) (stage taken_by) New

-- A taker took turns of these jobs. Its jobs and its memory stay. It is through with them or, where memory was refused, cut short.
pub record TakesTurns {E S : Type 0} (turns_of : S → List Segment) (begins_with : S → Memory) (stage : S → TakerStage)
    (result : Result (Unit {0}) E) (jobs : List Segment) (old new : S) : Type 0 where
  pub same : (turns_of new ≡ turns_of old) × (begins_with new ≡ begins_with old)
  pub through : OnOk result (IsThrough jobs (stage new))
  pub short : OnErr result (IsCutShort jobs (stage new))

-- the numbers of so many jobs, in their order
abbrev pub numbers_to : ℕ → List ℕ
numbers_to jobs = map (λ number. number) (range_with_len 0 jobs)
