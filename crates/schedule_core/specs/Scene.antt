-- What the stored state of a schedule tells, and what holds of it.
use Rattle.std.specs.Prelude.{◌≡◌, ℕ, ◌+◌, ◌<◌, ◌≤◌, ◌==◌, true, false, if◌then◌else◌, Option, Some, None, Result, OnOk, OnErr, List, All, length, map, slice_get, sum_by, Vec, vec_len}
use Rattle.std.specs.Vec.{vec_capacity}
use Rattle.std.specs.declared.alloc.AllocError.{AllocError}
use Rattle.std.specs.declared.alloc.Global.{Global}
use Rattle.guest_memory.specs.Memory.{Memory}
use Rattle.hart.specs.HartState.{HartState}
use Rattle.hart.specs.Segment.{after}
use Rattle.abi.specs.Limits as limit
use Rattle.schedule.specs.Phase.{Counts, begun, is_enabled, made, opened}
use Rattle.schedule.specs.declared.job_progress.JobProgress.{JobProgress}
use Rattle.schedule.specs.declared.event.Event.{Event}
use Rattle.schedule.specs.declared.event.Event.TheVariants.{Turn}
use Rattle.schedule.specs.declared.fate.Fate.{Fate}
use Rattle.schedule.specs.declared.fate.Fate.TheVariants as fate
use Rattle.schedule.specs.declared.worker.Held.{Held as Counted}
use Rattle.schedule.specs.declared.worker.Worker.{Worker}
use Rattle.schedule.specs.declared.worker.Worker.TheVariants as worker
use Rattle.segment.specs.Ends.{IsEndOf}
use Rattle.token.specs.Point.{Point, need_at}
use Rattle.token.specs.RunInTurn.{point_of}
use Rattle.token.specs.declared.need.Need.{Need}
use Rattle.token.specs.declared.need.Need.TheVariants.{Keeper}
use Rattle.segment.specs.declared.segment_end.SegmentEnd.{SegmentEnd}
use Rattle.schedule_core.specs.Faults.{IsAnswerTo}
use Rattle.schedule_core.specs.Jobs.{Start, jobs_of, start_of, verdicts_of, work_at}
use Rattle.schedule_core.specs.Underway.{IsUnderway, progress_of, memory_of}
use Rattle.schedule_core.specs.Tally.{Happens, Tally, is_turn_enabled, refusal_if, refusal_of}
use Rattle.schedule_core.specs.declared.event_fault.EventFault.{EventFault}
use Rattle.schedule_core.specs.declared.stepped_segment.SteppedSegment.{SteppedSegment}
use Rattle.schedule_core.specs.declared.seat.SteppedJob.{SteppedJob}
use Rattle.schedule_core.specs.declared.seat.Seat.{Seat}
use Rattle.schedule_core.specs.declared.seat.Seat.TheVariants.{Idle, Ended, Working}
use Rattle.schedule_core.specs.declared.slot.Slot.{Slot}
use Rattle.schedule_core.specs.declared.slot.Slot.TheVariants.{Open, Posted, Skipped}
use Rattle.schedule_core.specs.declared.scene.Scene.{Scene}

-- what is counted of the job that a worker has
abbrev pub counted_of : SteppedJob → Counted
counted_of held = record { job = held.job; progress = progress_of held.underway; noted = held.noted }

abbrev pub worker_of : Seat → Worker
worker_of Idle = worker.Idle
worker_of Ended = worker.Ended
worker_of (Working held) = worker.Working (counted_of held)

abbrev pub fate_of : Slot → Fate
fate_of Open = fate.Open
fate_of (Posted end) = fate.Posted
fate_of Skipped = fate.Skipped

-- what is counted of a phase
abbrev pub counts_by : ℕ → ℕ → List Seat → List Slot → Counts
counts_by drawn least seats slots = record { drawn = drawn; least = least; workers = map worker_of seats; fates = map fate_of slots }

-- how far the keeper's segment has come
abbrev pub keeper_progress : Option SteppedSegment → JobProgress
keeper_progress None = begun
keeper_progress (Some underway) = progress_of underway

-- where the turns stand
abbrev pub point_at : Scene → Point
point_at scene = point_of scene.serial

abbrev pub counts_of : Scene → Counts
counts_of scene = counts_by scene.drawn scene.least scene.seats.items scene.slots.items

-- the abstract world that is told
abbrev pub tally_of : Scene → Tally
tally_of scene = record { turns = (point_at scene).done; counts = counts_of scene; keeper = keeper_progress scene.keeper }

-- A worker's segment is its job's on the phase's first memory.
pub record IsHeld (start : Start) (held : SteppedJob) : Type 0 where
  pub underway : IsUnderway held.underway
  pub job : held.job < length (jobs_of start)
  pub work : held.underway.work ≡ work_at start held.job
  pub memory : memory_of held.underway ≡ start.memory

abbrev pub IsSeat : Start → Seat → Type 0
IsSeat start Idle = Unit {0}
IsSeat start Ended = Unit {0}
IsSeat start (Working held) = IsHeld start held

-- the keeper's segment is the one that the next turn needs, on the present memory
pub record IsKeepers (point : Point) (segment : SteppedSegment) : Type 0 where
  pub underway : IsUnderway segment
  pub need : need_at point ≡ Keeper segment.work
  pub memory : memory_of segment ≡ point.state.memory

abbrev pub IsKeeper : Point → Option SteppedSegment → Type 0
IsKeeper point None = Unit {0}
IsKeeper point (Some underway) = IsKeepers point underway

-- one for a worker that has found no job left
abbrev pub one_if_ended : Seat → ℕ
one_if_ended Idle = 0
one_if_ended Ended = 1
one_if_ended (Working held) = 0

-- What holds of the workers' places and the jobs' results in a phase.
pub record IsDesk (start : Start) (number : ℕ) (places : List Seat) (results : List Slot) : Type 0 where
  pub seats : All (IsSeat start) places
  pub slots : (job : ℕ) (end : SegmentEnd) → slice_get results job ≡ Some (Posted end) → IsEndOf start.memory (work_at start job).segment end
  pub jobs : length results ≡ length (jobs_of start)
  pub drawn : number ≤ length results + sum_by one_if_ended places
  pub few_workers : length places ≤ limit.workers
  pub few_jobs : length results ≤ 256

abbrev pub start_in : Scene → Start
start_in scene = start_of (point_at scene)

-- there is room for the results and the places of each further phase
pub record HasRoom (results : Vec Slot Global) (places : Vec Seat Global) : Type 0 where
  pub slots : 256 ≤ vec_capacity results
  pub seats : vec_len places ≤ vec_capacity places

-- What holds of the stored state.
pub record IsSound (scene : Scene) : Type 0 where
  pub desk : IsDesk (start_in scene) scene.drawn scene.seats.items scene.slots.items
  pub keeper : IsKeeper (point_at scene) scene.keeper
  pub outcome : scene.outcome ≡ (point_at scene).ended
  pub room : HasRoom scene.slots scene.seats

-- Two stored states tell the same.
pub record Same (old new : Scene) : Type 0 where
  pub point : point_at new ≡ point_at old
  pub tally : tally_of new ≡ tally_of old

-- The run goes on from a stored state, which is sound.
pub record GoesOn (scene : Scene) : Type 0 where
  pub sound : IsSound scene
  pub goes : (point_at scene).ended ≡ None

-- The next turn of a stored state, which is sound, needs this.
pub record NeedsNext (scene : Scene) (what : Need) : Type 0 where
  pub sound : IsSound scene
  pub need : need_at (point_at scene) ≡ what

-- An event of a worker that is there is enabled in a stored state, which is sound.
pub record MayDo (scene : Scene) (worker : ℕ) (event : Event) : Type 0 where
  pub sound : IsSound scene
  pub there : worker < length scene.seats.items
  pub enabled : is_enabled (verdicts_of (start_in scene)) (counts_of scene) event ≡ true

-- An event of a worker is done or, where it fails, nothing that is counted changes. The turns and the keeper's segment stay.
pub record Works (old : Scene) (event : Event) (new : Scene) (result : Result (Unit {0}) AllocError) : Type 0 where
  pub sound : IsSound new
  pub serial : new.serial ≡ old.serial
  pub keeper : new.keeper ≡ old.keeper
  pub ok : OnOk result (counts_of new ≡ made (verdicts_of (start_in old)) (counts_of old) event)
  pub err : OnErr result (counts_of new ≡ counts_of old)

-- An event happens or, where it fails, nothing changes. The stored state stays sound.
pub record Does {E : Type 0} (old : Scene) (event : Event) (new : Scene) (result : Result (Unit {0}) E) : Type 0 where
  pub sound : IsSound new
  pub happens : OnOk result (Happens (point_at old) (tally_of old) event (point_at new) (tally_of new))
  pub unchanged : OnErr result (Same old new)

-- An event is refused where there is a reason to refuse it. Otherwise it is done, unless memory runs out.
pub record Answers (old : Scene) (event : Event) (new : Scene) (result : Result (Unit {0}) EventFault) : Type 0 where
  pub refused : IsAnswerTo (refusal_of (point_at old) (tally_of old) event) result
  pub does : Does old event new result

-- The next turn, which needs this, is refused where it isn't enabled. Otherwise it is done, unless memory runs out.
pub record TakesTurn (old : Scene) (need : Need) (new : Scene) (result : Result (Unit {0}) EventFault) : Type 0 where
  pub answer : IsAnswerTo (refusal_if false true (is_turn_enabled (start_in old) need (tally_of old))) result
  pub does : Does old Turn new result

-- what is counted where the present phase has just opened
abbrev pub opened_in : Scene → Counts
opened_in scene = opened (length (jobs_of (start_in scene))) (length scene.seats.items)

-- what is counted after a turn that began in this phase: if the phase is a further one now, it has just opened
abbrev pub settled_from : Scene → ℕ → Counts
settled_from scene phase = if (point_at scene).phase == phase then counts_of scene else opened_in scene

-- No keeper's segment has begun, and this is counted. The stored state is sound, and the turns stay.
pub record Settles (old : Scene) (counted : Counts) (new : Scene) : Type 0 where
  pub sound : IsSound new
  pub serial : new.serial ≡ old.serial
  pub keeper : new.keeper ≡ None
  pub counts : counts_of new ≡ counted

-- the hart and the memory of a worker's job: as many times the next instruction from its start on the phase's first memory as its steps
abbrev pub private_of : Start → Option Worker → Option (HartState × Memory)
private_of start (Some (worker.Working held)) = after held.progress.steps (work_at start held.job).segment.hart start.memory
private_of start (Some worker.Idle) = None
private_of start (Some worker.Ended) = None
private_of start None = None
