-- What the events of workers do in a phase. It is counted, and no memory is looked at: a job after some steps is that many times the
-- next instruction from the job's start.
use Rattle.std.specs.Prelude.{◌≡◌, ℕ, ◌+◌, Bool, true, false, ◌&&◌, not, nat_lt, min, if◌then◌else◌, Option, Some, None, List, [], ◌∷◌, length, replicate, slice_get, slice_set}
use Rattle.schedule.specs.Verdict.{Verdict, GoesOn, Stops, EndsRun}
use Rattle.schedule.specs.declared.job_progress.JobProgress.{JobProgress}
use Rattle.schedule.specs.declared.event.Event.{Event}
use Rattle.schedule.specs.declared.event.Event.TheVariants.{Draw, Step, Note, Skip, Post, Hold, Turn}
use Rattle.schedule.specs.declared.fate.Fate.{Fate}
use Rattle.schedule.specs.declared.fate.Fate.TheVariants.{Open, Posted, Skipped}
use Rattle.schedule.specs.declared.worker.Held.{Held}
use Rattle.schedule.specs.declared.worker.Worker.{Worker}
use Rattle.schedule.specs.declared.worker.Worker.TheVariants.{Idle, Ended, Working}

-- What a phase counts: how many numbers were drawn, a job's or one above them; the least job that was made known to have ended the run,
-- or the number of jobs; what each worker is at; and what has become of each job.
pub record Counts : Type 0 where
  pub drawn : ℕ
  pub least : ℕ
  pub workers : List Worker
  pub fates : List Fate

-- a phase that opens with so many jobs for so many workers
unfoldable pub opened : ℕ → ℕ → Counts
opened jobs workers = record { drawn = 0; least = jobs; workers = replicate workers Idle; fates = replicate jobs Open }

-- What each job of a phase comes to after so many steps.
abbrev pub Verdicts : Type 0
Verdicts = ℕ → ℕ → Verdict

-- a segment that has made no step
abbrev pub begun : JobProgress
begun = record { steps = 0; stopped = false }

-- a segment after one more event: it has made a step more, or it has stopped
abbrev pub advanced : Verdict → JobProgress → JobProgress
advanced GoesOn progress = record progress { steps = progress.steps + 1 }
advanced Stops progress = record progress { stopped = true }
advanced EndsRun progress = record progress { stopped = true }

-- what a job that has come so far comes to
abbrev pub verdict_at : Verdicts → Held → Verdict
verdict_at verdicts held = verdicts held.job held.progress.steps

abbrev pub is_end : Verdict → Bool
is_end GoesOn = false
is_end Stops = false
is_end EndsRun = true

-- the worker of an event
abbrev pub worker_of : Event → Option ℕ
worker_of (Draw worker) = Some worker
worker_of (Step worker) = Some worker
worker_of (Note worker) = Some worker
worker_of (Skip worker) = Some worker
worker_of (Post worker) = Some worker
worker_of Hold = None
worker_of Turn = None

-- Where an event of a worker that has this job is enabled: it steps while its job hasn't stopped, makes known once that the job has ended
-- the run, skips a job that hasn't stopped and is above one that ended the run, and posts a job that has stopped.
abbrev pub is_enabled_with : Verdicts → ℕ → Held → Event → Bool
is_enabled_with verdicts least held (Step worker) = not held.progress.stopped
is_enabled_with verdicts least held (Note worker) = held.progress.stopped && (is_end (verdict_at verdicts held) && not held.noted)
is_enabled_with verdicts least held (Skip worker) = not held.progress.stopped && nat_lt least held.job
is_enabled_with verdicts least held (Post worker) = held.progress.stopped
is_enabled_with verdicts least held _ = false

-- an idle worker may draw and no more
abbrev pub is_draw : Event → Bool
is_draw (Draw worker) = true
is_draw _ = false

abbrev pub is_enabled_for : Verdicts → ℕ → Worker → Event → Bool
is_enabled_for verdicts least Idle event = is_draw event
is_enabled_for verdicts least Ended event = false
is_enabled_for verdicts least (Working held) event = is_enabled_with verdicts least held event

-- whether a worker's event is enabled; nothing is for a worker that isn't there
abbrev pub is_enabled_at : Verdicts → ℕ → Option Worker → Event → Bool
is_enabled_at verdicts least None event = false
is_enabled_at verdicts least (Some worker) event = is_enabled_for verdicts least worker event

-- whether an event of this worker is enabled
abbrev pub is_enabled_by : Verdicts → Counts → Option ℕ → Event → Bool
is_enabled_by verdicts counts None event = false
is_enabled_by verdicts counts (Some worker) event = is_enabled_at verdicts counts.least (slice_get counts.workers worker) event

-- whether an event is a worker's and enabled
unfoldable pub is_enabled : Verdicts → Counts → Event → Bool
is_enabled verdicts counts event = is_enabled_by verdicts counts (worker_of event) event

-- what a worker is at that has drawn a number
abbrev pub drawing : ℕ → ℕ → Worker
drawing number jobs = if nat_lt number jobs then Working (record { job = number; progress = begun; noted = false }) else Ended

-- the counts where a worker is at something else
abbrev pub with_worker : Counts → ℕ → Worker → Counts
with_worker counts worker state = record counts { workers = slice_set counts.workers worker state }

-- the counts where something has become of a job
abbrev pub with_fate : Counts → ℕ → Fate → Counts
with_fate counts job fate = record counts { fates = slice_set counts.fates job fate }

-- what an event of a worker that has a job does
abbrev pub made_with : Verdicts → Counts → ℕ → Held → Event → Counts
made_with verdicts counts worker held (Step _) = with_worker counts worker (Working (record held { progress = advanced (verdict_at verdicts held) held.progress }))
made_with verdicts counts worker held (Note _) = with_worker (record counts { least = min counts.least held.job }) worker (Working (record held { noted = true }))
made_with verdicts counts worker held (Skip _) = with_fate (with_worker counts worker Idle) held.job Skipped
made_with verdicts counts worker held (Post _) = with_fate (with_worker counts worker Idle) held.job Posted
made_with verdicts counts worker held _ = counts

-- what a draw does: it takes the next number
abbrev pub drawn_by : Counts → ℕ → Counts
drawn_by counts worker = with_worker (record counts { drawn = counts.drawn + 1 }) worker (drawing counts.drawn (length counts.fates))

abbrev pub made_for : Verdicts → Counts → ℕ → Option Worker → Event → Counts
made_for verdicts counts worker (Some (Working held)) event = made_with verdicts counts worker held event
made_for verdicts counts worker _ event = drawn_by counts worker

abbrev pub made_by : Verdicts → Counts → Option ℕ → Event → Counts
made_by verdicts counts None event = counts
made_by verdicts counts (Some worker) event = made_for verdicts counts worker (slice_get counts.workers worker) event

-- the counts after a worker's event that is enabled
unfoldable pub made : Verdicts → Counts → Event → Counts
made verdicts counts event = made_by verdicts counts (worker_of event) event

-- A list of workers' events, each enabled, leads from these counts to those.
unfoldable pub Leads : Verdicts → Counts → List Event → Counts → Type 0
Leads verdicts before [] after = after ≡ before
Leads verdicts before (event ∷ events) after = (is_enabled verdicts before event ≡ true) × Leads verdicts (made verdicts before event) events after
