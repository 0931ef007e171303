-- What a turn changes of what stands beside it.
use Rattle.std.proofs.Common.{◌≡◌, ◌∙◌, ℕ, zero, suc, ◌+◌, Bool, true, false, Option, Some, None, List, ◌∷◌, length, refl, ap, sym, subst, arith}
use Rattle.std.specs.Prelude.{is_some, if◌then◌else◌, ◌==◌, ◌||◌, nat_lt}
use Rattle.token.specs.Outcome.{quiet_outcome}
use Rattle.token.specs.Point.{Point, after_step, due_at, moved, need_at, need_by, counted, need_of, next_phase, passed_on}
use Rattle.token.specs.Serial.{IsLonger}
use Rattle.token.specs.Setup.{list_in}
use Rattle.token.specs.Turns.{Step}
use Rattle.token.specs.declared.due.Due.{Due}
use Rattle.token.specs.declared.due.Due.TheVariants as due
use Rattle.token.specs.declared.need.Need.TheVariants as need
use Rattle.token.specs.declared.need.Work.{Work}
use Rattle.token.specs.declared.outcome.RunOutcome.{RunOutcome}
use Rattle.token.specs.History.{History}
use Rattle.token.specs.Law.{Progress as LawOfProgress}
use Rattle.token.specs.Serial.{StandsAfter}
use Rattle.schedule_core.specs.Histories.{IsOutcome}
use Rattle.std.specs.Prelude.{map, option_map, slice_get, slice_index, position}
use Rattle.std.proofs.Common.{replicate, get_or, ◌<◌, ◌≤◌}
use Rattle.std.proofs.lemmas.Bool.Decides.{nat_tests}
use Rattle.std.proofs.lemmas.List.{length-replicate, get_or-replicate, length-map}
use Rattle.std.proofs.lemmas.List.Elements.{All-from_get_or}
use Rattle.std.proofs.lemmas.List.Quantifiers.{position-Some}
use Rattle.std.proofs.lemmas.Option.{slice_get_within, get_or_from_slice_get, slice_get-get_or, slice_get-map}
use Rattle.schedule.specs.Phase.{Counts, opened}
use Rattle.schedule.specs.declared.job_progress.JobProgress.{JobProgress}
use Rattle.schedule.specs.declared.event.Event.TheVariants.{Turn}
use Rattle.schedule.specs.declared.fate.Fate.{Fate}
use Rattle.token.proofs.Needs.{segment_is, segment_needed}
use Rattle.segment.specs.Ends.{IsEndOf}
use Rattle.token.specs.Point.{IsNeededAt, step_at}
use Rattle.token.specs.RunInTurn.{point_of}
use Rattle.token.specs.declared.run_in_turn.RunInTurn.{RunInTurn}
use Rattle.segment.specs.declared.segment_end.SegmentEnd.{SegmentEnd}
use Rattle.schedule_core.specs.Jobs.{Start, start_of, work_of, work_at, job_of, jobs_of}
use Rattle.schedule_core.specs.Scene.{IsSeat, counts_by, counts_of, fate_of, keeper_progress, point_at, tally_of, worker_of}
use Rattle.schedule_core.specs.Tally.{Happens, Tally, counts_after, is_posted}
use Rattle.schedule_core.specs.declared.scene.Scene.{Scene}
use Rattle.schedule_core.specs.declared.seat.Seat.TheVariants.{Idle}
use Rattle.schedule_core.specs.declared.slot.Slot.TheVariants.{Open, Posted, Skipped}
use Rattle.schedule_core.specs.Scene.{IsDesk, IsKeeper}
use Rattle.schedule_core.specs.declared.stepped_segment.SteppedSegment.{SteppedSegment}
use Rattle.schedule_core.specs.declared.seat.Seat.{Seat}
use Rattle.schedule_core.specs.declared.slot.Slot.{Slot}

-- what the next phase begins with, or that the run has ended
abbrev pub begun : Point → List ℕ → Point
begun point list = record point { phase = point.phase + 1; first = point.done; base = point.state.memory; base_threads = point.state.threads; list = list; given = 0 }

abbrev pub ended : Point → Point
ended point = record point { ended = Some (quiet_outcome point.state) }

by_going : (point : Point) (list : List ℕ) (goes empty : Bool) → (if goes then point else (if empty then ended point else begun point list)).phase ≡ point.phase
    → start_of (if goes then point else (if empty then ended point else begun point list)) ≡ start_of point
by_going point list true empty same = refl
by_going point list false true same = refl
by_going point list false false same = absurd (omega arith)

-- A turn after which the phase is still the same keeps what the phase began with.
pub same_start : (point : Point) (step : Step) → (moved point step).phase ≡ point.phase → start_of (moved point step) ≡ start_of point
unfolding passed_on next_phase after_step counted
same_start point step same =
    let after : Point = after_step point step in
    by_going after (list_in after.setup (after.phase + 1) after.state.threads) (is_some after.ended || is_some after.keeper || nat_lt after.given (length after.list)) (length (list_in after.setup (after.phase + 1) after.state.threads) == 0) same

-- the segment that the next turn needs is that of a thread in this phase
segment_work : (point : Point) (work : Work) → need_at point ≡ need.Segment work → work ≡ work_of (start_of point) work.thread
unfolding work_of
segment_work point work is = segment_is point work is

-- a run that has ended needs nothing
ended_of : (point : Point) (ends : Option RunOutcome) (who : Due) (outcome : RunOutcome) → need_by ends (need_of point who) ≡ need.Ended outcome → ends ≡ Some outcome
ended_of point (Some other) who outcome is = let same : other ≡ outcome = cc is in ap Some same
ended_of point None (due.Fresh thread) outcome is = absurd (cc)
ended_of point None (due.Keeper thread) outcome is = absurd (cc)
ended_of point None (due.Woken thread mutex) outcome is = absurd (cc)

pub has_ended : (point : Point) (outcome : RunOutcome) → need_at point ≡ need.Ended outcome → point.ended ≡ Some outcome
unfolding need_at
has_ended point outcome is = ended_of point point.ended (due_at point) outcome is

going_of : (point : Point) (ends : Option RunOutcome) (who : Due) → ((outcome : RunOutcome) → need_by ends (need_of point who) ≡ need.Ended outcome → ⊥) → ends ≡ None
going_of point None who never = refl
going_of point (Some outcome) who never = absurd (never outcome refl)

pub goes_on : (point : Point) → ((outcome : RunOutcome) → need_at point ≡ need.Ended outcome → ⊥) → point.ended ≡ None
unfolding need_at
goes_on point never = going_of point point.ended (due_at point) never

-- what holds of the workers' places still does after a turn of the same phase
pub kept_desk : (old new : Point) (step : Step) (phase number : ℕ) (places : List Seat) (results : List Slot)
    → new ≡ moved old step → phase ≡ old.phase → IsDesk (start_of old) number places results → new.phase ≡ phase → IsDesk (start_of new) number places results
kept_desk old new step phase number places results done is desk same =
    let there : (moved old step).phase ≡ old.phase = sym (ap (λ (point : Point). point.phase) done) ∙ same ∙ is in
    subst (λ (start : Start). IsDesk start number places results) (sym (ap start_of done ∙ same_start old step there)) desk

-- and where the run stands as before
pub same_desk : (old new : Point) (number : ℕ) (places : List Seat) (results : List Slot) → new ≡ old → IsDesk (start_of old) number places results → IsDesk (start_of new) number places results
same_desk old new number places results same desk = subst (λ (point : Point). IsDesk (start_of point) number places results) (sym same) desk

pub same_keeper : (old new : Point) (keeper : Option SteppedSegment) → new ≡ old → IsKeeper old keeper → IsKeeper new keeper
same_keeper old new keeper same holds = subst (λ (point : Point). IsKeeper point keeper) (sym same) holds

-- the outcome of a run is that of its history
pub outcome_is : (point : Point) (history : History) → StandsAfter point history → LawOfProgress → (found : Option RunOutcome) → point.ended ≡ found → IsOutcome point found
outcome_is point history stands law found same =
    record {
      history = history;
      stands = stands;
      is = stands.ended ∙ same;
      goes_on = λ none. law.goes_on point.setup history stands.legal (stands.ended ∙ same ∙ none);
      complete = λ ends some step follows. law.ends point.setup history step ends stands.legal (stands.ended ∙ same ∙ some) follows;
    }

-- places and results at a phase's start
map_replicate : {A B : Type 0} (f : A → B) (n : ℕ) (x : A) → map f (replicate n x) ≡ replicate n (f x)
map_replicate f zero x = refl
map_replicate f (suc n) x = ap (λ rest. f x ∷ rest) (map_replicate f n x)

same_counts : (least : ℕ) (seats : List Seat) (slots : List Slot) (places : List Seat) (results : List Slot) → seats ≡ places → slots ≡ results
    → counts_by 0 least seats slots ≡ counts_by 0 least places results
same_counts least seats slots places results one two = λ i. counts_by 0 least (one i) (two i)

opened_map : (jobs workers : ℕ) → counts_by 0 jobs (replicate workers Idle) (replicate jobs Open) ≡ opened jobs workers
unfolding opened
opened_map jobs workers =
    λ i. record { drawn = 0; least = jobs; workers = map_replicate worker_of workers Idle i; fates = map_replicate fate_of jobs Open i }

pub opened_told : (jobs workers : ℕ) (seats : List Seat) (slots : List Slot) → seats ≡ replicate workers Idle → slots ≡ replicate jobs Open
    → counts_by 0 jobs seats slots ≡ opened jobs workers
opened_told jobs workers seats slots idle open_slots = same_counts jobs seats slots (replicate workers Idle) (replicate jobs Open) idle open_slots ∙ opened_map jobs workers

pub opened_desk : (start : Start) (jobs workers : ℕ) (seats : List Seat) (slots : List Slot) → seats ≡ replicate workers Idle → slots ≡ replicate jobs Open
    → jobs ≡ length (jobs_of start) → workers ≤ 64 → jobs ≤ 256 → IsDesk start 0 seats slots
opened_desk start jobs workers seats slots idle open_slots same few_workers few_jobs =
    let places : length seats ≡ workers = ap length idle ∙ length-replicate workers Idle in
    let results : length slots ≡ jobs = ap length open_slots ∙ length-replicate jobs Open in
    record {
      seats =
          All-from_get_or (IsSeat start) seats Idle
          (λ i below.
          let within : i < workers = omega arith in
          subst (IsSeat start) (sym (ap (λ (seats : List Seat). get_or seats i Idle) idle ∙ get_or-replicate workers i Idle Idle within)) tt);
      slots =
          λ job end posted.
          let below : job < length slots = slice_get_within slots job (Posted end) posted in
          let within : job < jobs = omega arith in
          let found : get_or slots job Open ≡ Posted end = get_or_from_slice_get slots job (Posted end) Open posted in
          let open_there : get_or slots job Open ≡ Open = ap (λ (slots : List Slot). get_or slots job Open) open_slots ∙ get_or-replicate jobs job Open Open within in
          let bad : ⊥ = cc in absurd bad;
      jobs = results ∙ same;
      drawn = omega arith;
      few_workers = omega arith;
      few_jobs = omega arith;
    }

-- the job of a thread is one on its segment
job_thread : (thread : ℕ) (jobs : List ℕ) (job : ℕ) → position (λ number. number == thread) jobs ≡ Some job → slice_index jobs job ≡ thread
job_thread thread jobs job is =
    let found : (get_or jobs job 0 == thread) ≡ true = (position-Some (λ number. number == thread) jobs job 0 is).1 in
    grind (arith, nat_tests)

job_work : (start : Start) (thread job : ℕ) → job_of start thread ≡ Some job → work_at start job ≡ work_of start thread
unfolding job_of work_at
job_work start thread job is = ap (work_of start) (job_thread thread (jobs_of start) job is)

-- the posted result of the next thread's job is what the next turn needs
pub posted_needed : (point : Point) (work : Work) (number : ℕ) (places : List Seat) (results : List Slot) (job : ℕ) (end : SegmentEnd)
    → need_at point ≡ need.Segment work → IsDesk (start_of point) number places results → job_of (start_of point) work.thread ≡ Some job
    → slice_get results job ≡ Some (Posted end) → IsNeededAt point (Some end)
posted_needed point work number places results job end needs desk is posted =
    segment_needed point work end needs
    (subst (λ (work : Work). IsEndOf point.base work.segment end) (job_work (start_of point) work.thread job is ∙ sym (segment_work point work needs)) (desk.slots job end posted))

-- a turn that is done has happened
same_tally : (turns other : ℕ) (counts others : Counts) (keeper another : JobProgress) → turns ≡ other → counts ≡ others → keeper ≡ another
    → (let tally : Tally = record { turns = turns; counts = counts; keeper = keeper } in tally) ≡ record { turns = other; counts = others; keeper = another }
same_tally turns other counts others keeper another one two three = λ i. record { turns = one i; counts = two i; keeper = three i }

pub turn_done : (old new : Scene) (serial : RunInTurn) (phase : ℕ) (end : Option SegmentEnd) → IsNeededAt (point_at old) end
    → point_of serial ≡ moved (point_at old) (step_at (point_at old) end) → IsLonger (point_at old) (point_of serial) → phase ≡ (point_at old).phase
    → new.serial ≡ serial → new.keeper ≡ None
    → counts_of new ≡ (if (point_of serial).phase == phase then counts_of old else opened (length (jobs_of (start_of (point_of serial)))) (length old.seats.items))
    → Happens (point_at old) (tally_of old) Turn (point_at new) (tally_of new)
turn_done old new serial phase end needed done longer is same none counts =
    let after : point_at new ≡ point_of serial = ap point_of same in
    let told : counts_of new ≡ counts_after (point_at old) (point_of serial) (counts_of old) =
    counts
    ∙ ap (λ (phase : ℕ). if (point_of serial).phase == phase then counts_of old else opened (length (jobs_of (start_of (point_of serial)))) (length old.seats.items)) is
    ∙ ap (λ (workers : ℕ). if (point_of serial).phase == (point_at old).phase then counts_of old else opened (length (jobs_of (start_of (point_of serial)))) workers) (sym (length-map old.seats.items worker_of)) in
    record {
      moves = record { end = end; needed = needed; done = after ∙ done };
      tally =
          same_tally _ _ _ _ _ _
          (ap (λ (point : Point). point.done) after ∙ longer.done)
          (told ∙ ap (λ (point : Point). counts_after (point_at old) point (counts_of old)) (sym after))
          (ap keeper_progress none);
    }

-- a result that was looked at
pub slot_at : (slots : List Slot) (job : ℕ) (found slot : Slot) → job < length slots → found ≡ get_or slots job found → found ≡ slot → slice_get slots job ≡ Some slot
slot_at slots job found slot within value is = slice_get-get_or slots job found within ∙ ap Some (sym value ∙ is)

-- a posted result is there
posted_fate : (fate : Option Fate) → is_posted fate ≡ true → (found : Fate) × (fate ≡ Some found)
posted_fate None is = let bad : ⊥ = cc in absurd bad
posted_fate (Some found) is = (found, refl)

pub posted_there : (slots : List Slot) (job : ℕ) → is_posted (slice_get (map fate_of slots) job) ≡ true → job < length slots
posted_there slots job is =
    let found = posted_fate (slice_get (map fate_of slots) job) is in
    rw (← length-map slots fate_of) (slice_get_within (map fate_of slots) job found.0 found.1)

posted_slot : (found : Slot) → is_posted (Some (fate_of found)) ≡ true → ((end : SegmentEnd) → found ≡ Posted end → ⊥) → ⊥
posted_slot Open is never = cc
posted_slot (Posted end) is never = never end refl
posted_slot Skipped is never = cc

pub must_be_posted : (slots : List Slot) (job : ℕ) (found : Slot) → found ≡ get_or slots job found → is_posted (slice_get (map fate_of slots) job) ≡ true
    → ((end : SegmentEnd) → found ≡ Posted end → ⊥) → ⊥
must_be_posted slots job found value is never =
    let there = slot_at slots job found found (posted_there slots job is) value refl in
    posted_slot found (sym (ap is_posted (slice_get-map fate_of slots job ∙ ap (option_map fate_of) there)) ∙ is) never
