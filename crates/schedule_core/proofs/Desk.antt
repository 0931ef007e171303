-- How the workers' places and the jobs' results change by an event.
use Rattle.std.proofs.Common.{◌≡◌, ◌∙◌, ℕ, ◌+◌, ◌<◌, ◌≤◌, Bool, true, false, Option, Some, None, List, length, refl, ap, sym, subst, arith, get_or, inl, inr, ◌⊎◌}
use Rattle.std.specs.Prelude.{is_some, Result, Ok, Err, OnOk, OnErr, map, option_map, min, ◌==◌, slice_get, slice_set, ◌&&◌, not, nat_lt}
use Rattle.std.proofs.lemmas.List.{map-set, length-set, length-map}
use Rattle.std.proofs.lemmas.List.Elements.{All-set, All-from_get_or, All-get_or}
use Rattle.std.proofs.lemmas.List.Sums.{sum_by-set, sum_by-le}
use Rattle.std.proofs.lemmas.Option.{slice_get-map, slice_get_within, get_or_from_slice_get, slice_get-get_or}
use Rattle.std.proofs.Math.Seq.{map-set_same}
use Rattle.std.proofs.lemmas.Bool.Decides.{nat_tests}
use Rattle.call_table.proofs.Parked.{slice_get-itself, slice_get-other}
use Rattle.schedule.specs.Phase.{Counts, Verdicts, advanced, drawing, is_draw, is_enabled, is_enabled_with, is_end, is_enabled_at, is_enabled_by, is_enabled_for, made, made_by, made_for}
use Rattle.schedule.specs.Phase.{worker_of as worker_in}
use Rattle.schedule.specs.declared.event.Event.{Event}
use Rattle.schedule.specs.declared.event.Event.TheVariants.{Draw, Step, Note, Skip, Post, Hold, Turn}
use Rattle.schedule.specs.declared.job_progress.JobProgress.{JobProgress}
use Rattle.schedule.specs.declared.fate.Fate.{Fate}
use Rattle.schedule.specs.declared.worker.Held.{Held as Counted}
use Rattle.schedule.specs.declared.worker.Worker.{Worker}
use Rattle.schedule.specs.declared.worker.Worker.TheVariants as worker
use Rattle.hart.specs.declared.stop.Stop.{Stop}
use Rattle.segment.specs.Ends.{IsEndOf}
use Rattle.segment.specs.declared.segment_end.SegmentEnd.{SegmentEnd}
use Rattle.token.specs.declared.need.Work.{Work}
use Rattle.schedule_core.specs.Jobs.{Start, verdict_by, verdicts_of, work_at}
use Rattle.schedule_core.specs.Underway.{progress_of, memory_of, verdict_of}
use Rattle.schedule_core.specs.Scene.{IsDesk, IsHeld, IsSeat, counts_by, fate_of, one_if_ended, counted_of, worker_of}
use Rattle.schedule_core.specs.declared.stepped_segment.SteppedSegment.{SteppedSegment}
use Rattle.schedule_core.specs.declared.seat.SteppedJob.{SteppedJob}
use Rattle.schedule_core.specs.declared.seat.Seat.{Seat}
use Rattle.schedule_core.specs.declared.seat.Seat.TheVariants.{Idle, Ended, Working}
use Rattle.schedule_core.specs.declared.slot.Slot.{Slot}
use Rattle.schedule_core.specs.declared.slot.Slot.TheVariants.{Open, Posted, Skipped}

-- what is told of a worker's place
told_at : (seats : List Seat) (w : ℕ) (seat : Seat) → slice_get seats w ≡ Some seat → slice_get (map worker_of seats) w ≡ Some (worker_of seat)
told_at seats w seat is = slice_get-map worker_of seats w ∙ ap (option_map worker_of) is

-- whether its event is enabled
pub enabled_at : (verdicts : Verdicts) (drawn least : ℕ) (seats : List Seat) (slots : List Slot) (w : ℕ) (seat : Seat) (event : Event)
    → worker_in event ≡ Some w → slice_get seats w ≡ Some seat
    → is_enabled verdicts (counts_by drawn least seats slots) event ≡ is_enabled_for verdicts least (worker_of seat) event
unfolding is_enabled
enabled_at verdicts drawn least seats slots w seat event its is =
    ap (λ worker. is_enabled_by verdicts (counts_by drawn least seats slots) worker event) its
    ∙ ap (λ state. is_enabled_at verdicts least state event) (told_at seats w seat is)

-- what its event does
made_at : (verdicts : Verdicts) (drawn least : ℕ) (seats : List Seat) (slots : List Slot) (w : ℕ) (seat : Seat) (event : Event)
    → worker_in event ≡ Some w → slice_get seats w ≡ Some seat
    → made verdicts (counts_by drawn least seats slots) event ≡ made_for verdicts (counts_by drawn least seats slots) w (Some (worker_of seat)) event
unfolding made
made_at verdicts drawn least seats slots w seat event its is =
    ap (λ worker. made_by verdicts (counts_by drawn least seats slots) worker event) its
    ∙ ap (λ state. made_for verdicts (counts_by drawn least seats slots) w state event) (told_at seats w seat is)

-- the verdict on a job that a worker has
pub held_verdict : (start : Start) (held : SteppedJob) → IsHeld start held → verdict_of held.underway ≡ verdicts_of start held.job held.underway.steps
unfolding verdicts_of
held_verdict start held is =
    ap (λ work. verdict_by (memory_of held.underway) work held.underway.steps) is.work ∙ ap (λ memory. verdict_by memory (work_at start held.job) held.underway.steps) is.memory

-- the counts where a worker is at something else
set_told : (drawn least : ℕ) (seats : List Seat) (slots : List Slot) (w : ℕ) (seat : Seat) (state : Worker) → worker_of seat ≡ state
    → counts_by drawn least (slice_set seats w seat) slots ≡ record (counts_by drawn least seats slots) { workers = slice_set (map worker_of seats) w state }
set_told drawn least seats slots w seat state is =
    ap (λ (workers : List Worker). let counts : Counts = record { drawn = drawn; least = least; workers = workers; fates = map fate_of slots } in counts)
    (map-set worker_of seats w seat ∙ ap (λ (state : Worker). slice_set (map worker_of seats) w state) is)

-- draw
pub counts_draw : (verdicts : Verdicts) (drawn least : ℕ) (seats : List Seat) (slots : List Slot) (w : ℕ) (seat : Seat)
    → slice_get seats w ≡ Some Idle → worker_of seat ≡ drawing drawn (length slots)
    → counts_by (drawn + 1) least (slice_set seats w seat) slots ≡ made verdicts (counts_by drawn least seats slots) (Draw w)
counts_draw verdicts drawn least seats slots w seat idle draws =
    set_told (drawn + 1) least seats slots w seat (drawing drawn (length (map fate_of slots))) (draws ∙ ap (drawing drawn) (sym (length-map slots fate_of)))
    ∙ sym (made_at verdicts drawn least seats slots w Idle (Draw w) refl idle)

-- step
pub counts_step : (start : Start) (drawn least : ℕ) (seats : List Seat) (slots : List Slot) (w : ℕ) (held : SteppedJob) (underway : SteppedSegment)
    → slice_get seats w ≡ Some (Working held) → IsHeld start held → progress_of underway ≡ advanced (verdict_of held.underway) (progress_of held.underway)
    → counts_by drawn least (slice_set seats w (Working (record held { underway = underway }))) slots ≡ made (verdicts_of start) (counts_by drawn least seats slots) (Step w)
counts_step start drawn least seats slots w held underway is holds goes =
    set_told drawn least seats slots w (Working (record held { underway = underway }))
    (worker.Working (record { job = held.job; progress = advanced (verdicts_of start held.job held.underway.steps) (progress_of held.underway); noted = held.noted }))
    (ap (λ (progress : JobProgress). let counted : Counted = record { job = held.job; progress = progress; noted = held.noted } in worker.Working counted)
    (goes ∙ ap (λ verdict. advanced verdict (progress_of held.underway)) (held_verdict start held holds)))
    ∙ sym (made_at (verdicts_of start) drawn least seats slots w (Working held) (Step w) refl is)

-- a step that found no memory
pub counts_kept : (drawn least : ℕ) (seats : List Seat) (slots : List Slot) (w : ℕ) (held : SteppedJob) (underway : SteppedSegment)
    → slice_get seats w ≡ Some (Working held) → progress_of underway ≡ progress_of held.underway
    → counts_by drawn least (slice_set seats w (Working (record held { underway = underway }))) slots ≡ counts_by drawn least seats slots
counts_kept drawn least seats slots w held underway is same =
    ap (λ (workers : List Worker). let counts : Counts = record { drawn = drawn; least = least; workers = workers; fates = map fate_of slots } in counts)
    (map-set_same worker_of seats w (Working (record held { underway = underway })) (Working held)
    (ap (λ (progress : JobProgress). let counted : Counted = record { job = held.job; progress = progress; noted = held.noted } in worker.Working counted) same
    ∙ ap worker_of (sym (get_or_from_slice_get seats w (Working held) (Working held) is))))

-- note
pub counts_note : (verdicts : Verdicts) (drawn least : ℕ) (seats : List Seat) (slots : List Slot) (w : ℕ) (held : SteppedJob)
    → slice_get seats w ≡ Some (Working held)
    → counts_by drawn (min least held.job) (slice_set seats w (Working (record held { noted = true }))) slots ≡ made verdicts (counts_by drawn least seats slots) (Note w)
counts_note verdicts drawn least seats slots w held is =
    set_told drawn (min least held.job) seats slots w (Working (record held { noted = true })) _ refl
    ∙ sym (made_at verdicts drawn least seats slots w (Working held) (Note w) refl is)

-- a job becomes what a slot tells
set_fate : (drawn least : ℕ) (workers : List Worker) (slots : List Slot) (job : ℕ) (slot : Slot)
    → (let counts : Counts = record { drawn = drawn; least = least; workers = workers; fates = map fate_of (slice_set slots job slot) } in counts)
    ≡ record { drawn = drawn; least = least; workers = workers; fates = slice_set (map fate_of slots) job (fate_of slot) }
set_fate drawn least workers slots job slot =
    ap (λ (fates : List Fate). let counts : Counts = record { drawn = drawn; least = least; workers = workers; fates = fates } in counts) (map-set fate_of slots job slot)

-- skip
pub counts_skip : (verdicts : Verdicts) (drawn least : ℕ) (seats : List Seat) (slots : List Slot) (w : ℕ) (held : SteppedJob)
    → slice_get seats w ≡ Some (Working held)
    → counts_by drawn least (slice_set seats w Idle) (slice_set slots held.job Skipped) ≡ made verdicts (counts_by drawn least seats slots) (Skip w)
counts_skip verdicts drawn least seats slots w held is =
    set_told drawn least seats (slice_set slots held.job Skipped) w Idle worker.Idle refl
    ∙ set_fate drawn least (slice_set (map worker_of seats) w worker.Idle) slots held.job Skipped
    ∙ sym (made_at verdicts drawn least seats slots w (Working held) (Skip w) refl is)

-- post
pub counts_post : (verdicts : Verdicts) (drawn least : ℕ) (seats : List Seat) (slots : List Slot) (w : ℕ) (held : SteppedJob) (end : SegmentEnd)
    → slice_get seats w ≡ Some (Working held)
    → counts_by drawn least (slice_set seats w Idle) (slice_set slots held.job (Posted end)) ≡ made verdicts (counts_by drawn least seats slots) (Post w)
counts_post verdicts drawn least seats slots w held end is =
    set_told drawn least seats (slice_set slots held.job (Posted end)) w Idle worker.Idle refl
    ∙ set_fate drawn least (slice_set (map worker_of seats) w worker.Idle) slots held.job (Posted end)
    ∙ sym (made_at verdicts drawn least seats slots w (Working held) (Post w) refl is)

-- what holds where a worker's place changes
pub seat_changes : (start : Start) (drawn : ℕ) (seats : List Seat) (slots : List Slot) (w : ℕ) (old new : Seat)
    → IsDesk start drawn seats slots → slice_get seats w ≡ Some old → IsSeat start new → one_if_ended new ≡ one_if_ended old
    → IsDesk start drawn (slice_set seats w new) slots
seat_changes start drawn seats slots w old new desk is holds same =
    let within : w < length seats = slice_get_within seats w old is in
    let sums = sum_by-set one_if_ended seats w new old within in
    let there = ap one_if_ended (get_or_from_slice_get seats w old old is) in
    let drawn_within = desk.drawn in
    record {
      seats = All-set (IsSeat start) seats w new holds desk.seats;
      slots = desk.slots;
      jobs = desk.jobs;
      drawn = omega (arith, sums, there);
      few_workers = rw length-set desk.few_workers;
      few_jobs = desk.few_jobs;
    }

-- a worker that draws a number that is no job's has ended
drawn_ended : (seat : Seat) (number jobs : ℕ) (below : Bool) → nat_lt number jobs ≡ below → worker_of seat ≡ drawing number jobs
    → (number < jobs) ⊎ (one_if_ended seat ≡ 1)
drawn_ended seat number jobs true is draws = inl (grind (arith, nat_tests))
drawn_ended Idle number jobs false is draws = let no : worker.Idle ≡ worker.Ended = draws ∙ rw is refl in let bad : ⊥ = cc in absurd bad
drawn_ended Ended number jobs false is draws = inr refl
drawn_ended (Working held) number jobs false is draws = let no : worker.Working (counted_of held) ≡ worker.Ended = draws ∙ rw is refl in let bad : ⊥ = cc in absurd bad

-- what holds where a worker draws
pub seat_draws : (start : Start) (drawn : ℕ) (seats : List Seat) (slots : List Slot) (w : ℕ) (new : Seat)
    → IsDesk start drawn seats slots → slice_get seats w ≡ Some Idle → IsSeat start new → worker_of new ≡ drawing drawn (length slots)
    → IsDesk start (drawn + 1) (slice_set seats w new) slots
seat_draws start drawn seats slots w new desk is holds draws =
    let within : w < length seats = slice_get_within seats w Idle is in
    let sums = sum_by-set one_if_ended seats w new Idle within in
    let there = ap one_if_ended (get_or_from_slice_get seats w Idle Idle is) in
    let drawn_within = desk.drawn in
    let either = drawn_ended new drawn (length slots) (nat_lt drawn (length slots)) refl draws in
    record {
      seats = All-set (IsSeat start) seats w new holds desk.seats;
      slots = desk.slots;
      jobs = desk.jobs;
      drawn = elim either [ inl below ↦ omega (arith, sums, there) | inr one ↦ omega (arith, sums, there) ];
      few_workers = rw length-set desk.few_workers;
      few_jobs = desk.few_jobs;
    }

-- a few numbers are drawn
ended_once : (seat : Seat) → one_if_ended seat ≤ 1
ended_once Idle = omega arith
ended_once Ended = omega arith
ended_once (Working held) = omega arith

pub few_drawn : (start : Start) (drawn : ℕ) (seats : List Seat) (slots : List Slot) → IsDesk start drawn seats slots → drawn ≤ 320
few_drawn start drawn seats slots desk =
    let sum = sum_by-le one_if_ended 1 seats (All-from_get_or (λ seat. one_if_ended seat ≤ 1) seats Idle (λ i below. ended_once (get_or seats i Idle))) in
    let drawn_within = desk.drawn in
    let workers = desk.few_workers in
    let jobs = desk.few_jobs in
    omega (arith, sum)

-- what holds where something has become of a job
pub slot_changes : (start : Start) (drawn : ℕ) (seats : List Seat) (slots : List Slot) (job : ℕ) (slot : Slot)
    → IsDesk start drawn seats slots → job < length slots → ((end : SegmentEnd) → slot ≡ Posted end → IsEndOf start.memory (work_at start job).segment end)
    → IsDesk start drawn seats (slice_set slots job slot)
slot_changes start drawn seats slots job slot desk there ends =
    record {
      seats = desk.seats;
      slots = λ other end is. posted other end (job == other) refl is;
      jobs = rw length-set desk.jobs;
      drawn = rw length-set desk.drawn;
      few_workers = desk.few_workers;
      few_jobs = rw length-set desk.few_jobs;
    }
  where
    posted : (other : ℕ) (end : SegmentEnd) (same : Bool) → (job == other) ≡ same → slice_get (slice_set slots job slot) other ≡ Some (Posted end)
        → IsEndOf start.memory (work_at start other).segment end
    posted other end false apart is = desk.slots other end (sym (slice_get-other slots job other slot apart) ∙ is)
    posted other end true equal is =
        let same : job ≡ other = grind (arith, nat_tests) in
        let itself : slice_get (slice_set slots job slot) job ≡ Some slot = slice_get-itself slots job slot (get_or slots job Open) (slice_get-get_or slots job Open there) in
        let here : Some slot ≡ Some (Posted end) = sym itself ∙ ap (λ place. slice_get (slice_set slots job slot) place) same ∙ is in
        subst (λ place. IsEndOf start.memory (work_at start place).segment end) same (ends end (cc here))

-- what holds where a call succeeded, or where it failed, holds of what follows from it
pub ok_then : {E P Q : Type 0} (result : Result (Unit {0}) E) → (P → Q) → OnOk result P → OnOk result Q
ok_then (Ok done) follows holds = follows holds
ok_then (Err error) follows holds = tt

pub err_then : {E P Q : Type 0} (result : Result (Unit {0}) E) → (P → Q) → OnErr result P → OnErr result Q
err_then (Ok done) follows holds = tt
err_then (Err error) follows holds = follows holds

-- a place that was looked at
pub there_at : (seats : List Seat) (w : ℕ) (found seat : Seat) → w < length seats → found ≡ get_or seats w found → found ≡ seat → slice_get seats w ≡ Some seat
there_at seats w found seat within value is = slice_get-get_or seats w found within ∙ ap Some (sym value ∙ is)

-- what holds of the job that a worker has
pub held_at : (start : Start) (drawn : ℕ) (seats : List Seat) (slots : List Slot) (w : ℕ) (held : SteppedJob)
    → IsDesk start drawn seats slots → slice_get seats w ≡ Some (Working held) → IsHeld start held
held_at start drawn seats slots w held desk is =
    subst (IsSeat start) (get_or_from_slice_get seats w (Working held) Idle is)
    (All-get_or (IsSeat start) seats w Idle (slice_get_within seats w (Working held) is) desk.seats)

-- a worker whose event is enabled, and no draw, has a job
working : (verdicts : Verdicts) (least : ℕ) (found : Seat) (event : Event) → is_draw event ≡ false → is_enabled_for verdicts least (worker_of found) event ≡ true
    → ((held : SteppedJob) → found ≡ Working held → ⊥) → ⊥
working verdicts least Idle event other enabled none = cc
working verdicts least Ended event other enabled none = cc
working verdicts least (Working held) event other enabled none = none held refl

pub must_work : (verdicts : Verdicts) (drawn least : ℕ) (seats : List Seat) (slots : List Slot) (w : ℕ) (found : Seat) (event : Event)
    → worker_in event ≡ Some w → is_draw event ≡ false → w < length seats → found ≡ get_or seats w found
    → is_enabled verdicts (counts_by drawn least seats slots) event ≡ true → ((held : SteppedJob) → found ≡ Working held → ⊥) → ⊥
must_work verdicts drawn least seats slots w found event its other within value enabled none =
    working verdicts least found event other (sym (enabled_at verdicts drawn least seats slots w found event its (there_at seats w found found within value refl)) ∙ enabled) none

-- a worker that may draw is idle
idle : (verdicts : Verdicts) (drawn least : ℕ) (seats : List Seat) (slots : List Slot) (w : ℕ) (found : Seat)
    → slice_get seats w ≡ Some found → is_enabled_for verdicts least (worker_of found) (Draw w) ≡ true → slice_get seats w ≡ Some Idle
idle verdicts drawn least seats slots w Idle is enabled = is
idle verdicts drawn least seats slots w Ended is enabled = let no : ⊥ = cc in absurd no
idle verdicts drawn least seats slots w (Working held) is enabled = let no : ⊥ = cc in absurd no

pub must_be_idle : (verdicts : Verdicts) (drawn least : ℕ) (seats : List Seat) (slots : List Slot) (w : ℕ)
    → w < length seats → is_enabled verdicts (counts_by drawn least seats slots) (Draw w) ≡ true → slice_get seats w ≡ Some Idle
must_be_idle verdicts drawn least seats slots w within enabled =
    let there = slice_get-get_or seats w Idle within in
    idle verdicts drawn least seats slots w (get_or seats w Idle) there
    (sym (enabled_at verdicts drawn least seats slots w (get_or seats w Idle) (Draw w) refl there) ∙ enabled)

-- whether a job has stopped, where its worker may step or post
no_stop : (stop : Option Stop) → not (is_some stop) ≡ true → stop ≡ None
no_stop None is = refl
no_stop (Some stop) is = let no : ⊥ = cc in absurd no

pub not_stopped : (verdicts : Verdicts) (drawn least : ℕ) (seats : List Seat) (slots : List Slot) (w : ℕ) (held : SteppedJob)
    → slice_get seats w ≡ Some (Working held) → is_enabled verdicts (counts_by drawn least seats slots) (Step w) ≡ true → held.underway.stop ≡ None
not_stopped verdicts drawn least seats slots w held is enabled =
    no_stop held.underway.stop (sym (enabled_at verdicts drawn least seats slots w (Working held) (Step w) refl is) ∙ enabled)

some_stop : (stop : Option Stop) → is_some stop ≡ true → stop ≡ None → ⊥
some_stop None is none = cc
some_stop (Some stop) is none = cc

pub must_have_stopped : (verdicts : Verdicts) (drawn least : ℕ) (seats : List Seat) (slots : List Slot) (w : ℕ) (held : SteppedJob)
    → slice_get seats w ≡ Some (Working held) → is_enabled verdicts (counts_by drawn least seats slots) (Post w) ≡ true → held.underway.stop ≡ None → ⊥
must_have_stopped verdicts drawn least seats slots w held is enabled none =
    some_stop held.underway.stop (sym (enabled_at verdicts drawn least seats slots w (Working held) (Post w) refl is) ∙ enabled) none

-- what is enabled for a worker that has a job
same_allowed : (start : Start) (least : ℕ) (held : SteppedJob) (event : Event) → IsHeld start held
    → is_enabled_with (λ job steps. verdict_of held.underway) least (counted_of held) event ≡ is_enabled_with (verdicts_of start) least (counted_of held) event
same_allowed start least held (Draw w) holds = refl
same_allowed start least held (Step w) holds = refl
same_allowed start least held (Note w) holds = ap (λ verdict. is_some held.underway.stop && (is_end verdict && not held.noted)) (held_verdict start held holds)
same_allowed start least held (Skip w) holds = refl
same_allowed start least held (Post w) holds = refl
same_allowed start least held Hold holds = refl
same_allowed start least held Turn holds = refl

pub allowed_to : (start : Start) (drawn least : ℕ) (seats : List Seat) (slots : List Slot) (w : ℕ) (held : SteppedJob) (event : Event)
    → IsDesk start drawn seats slots → worker_in event ≡ Some w → slice_get seats w ≡ Some (Working held)
    → is_enabled_with (λ job steps. verdict_of held.underway) least (counted_of held) event ≡ is_enabled (verdicts_of start) (counts_by drawn least seats slots) event
allowed_to start drawn least seats slots w held event desk its is =
    same_allowed start least held event (held_at start drawn seats slots w held desk is)
    ∙ sym (enabled_at (verdicts_of start) drawn least seats slots w (Working held) event its is)

pub no_draw : (event : Event) → ((w : ℕ) → event ≡ Draw w → ⊥) → is_draw event ≡ false
no_draw (Draw w) none = absurd (none w refl)
no_draw (Step w) none = refl
no_draw (Note w) none = refl
no_draw (Skip w) none = refl
no_draw (Post w) none = refl
no_draw Hold none = refl
no_draw Turn none = refl

-- the result that is posted is that of the job
pub posted_end : (start : Start) (held : SteppedJob) → IsHeld start held → (end : SegmentEnd) → IsEndOf (memory_of held.underway) held.underway.work.segment end
    → (posted : SegmentEnd) → Posted end ≡ Posted posted → IsEndOf start.memory (work_at start held.job).segment posted
posted_end start held holds end ends posted is =
    let same : end ≡ posted = cc is in
    subst (IsEndOf start.memory (work_at start held.job).segment) same
    (subst (λ (work : Work). IsEndOf start.memory work.segment end) holds.work (subst (λ memory. IsEndOf memory held.underway.work.segment end) holds.memory ends))
