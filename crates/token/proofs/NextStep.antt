-- The step that a run's next turn makes follows its history.
use Rattle.std.proofs.Common.{◌≡◌, ℕ, zero, suc, ◌+◌, ◌-◌, ◌≤◌, Bool, if◌then◌else◌, Option, Some, None, is_some, option_and_then, List, ◌∷◌, length, slice_get, unwrap_or, refl, ap, sym, ◌∙◌, subst, inl, inr, arith}
use Rattle.std.proofs.lemmas.Bool.{cases_lt, cases_eq, eq-eqb}
use Rattle.call_table.specs.CommitAndWake.{committed_bytes}
use Rattle.call_table.specs.State.{State, row_of}
use Rattle.commit.specs.ByteMap.{ByteMap}
use Rattle.commit.specs.Changed.{addresses_of}
use Rattle.commit.specs.Merge.{changes}
use Rattle.guest_memory.specs.Memory.{Memory}
use Rattle.hart.specs.HartState.{HartState}
use Rattle.hart.specs.Next.{Next, next}
use Rattle.hart.specs.Segment.{Segment, after, bound_trap, counted, left_by, stop_after, stop_at}
use Rattle.hart.specs.declared.stop.Stop.{Stop}
use Rattle.hart.specs.declared.stop.Stop.TheVariants.{Trap as Trapped, Ecall, Quantum}
use Rattle.thread_table.specs.Thread.{blank}
use Rattle.thread_table.specs.declared.status.Status.TheVariants.{Ready, Woken}
use Rattle.thread_table.specs.declared.thread.Thread.{Thread}
use Rattle.token.specs.Due.{mutex_due, thread_due}
use Rattle.token.specs.History.{History, is_quiet, last_outcome, outcome, present, version}
use Rattle.token.specs.Legal.{Follows, IsDue, IsSegmentFrom, RunsPrivately, base_of}
use Rattle.token.specs.Point.{Point, IsNeededAt, IsNeededBy, base_at, base_number_at, due_at, moved, need_at, need_by, need_of, ran_step, step_at, woken_step}
use Rattle.token.specs.RunInTurn.{HasDue, MayTurn}
use Rattle.token.specs.Serial.{Invariants, StandsAfter}
use Rattle.token.specs.Setup.{Setup, quantum_in}
use Rattle.token.specs.Turns.{Ran, Step, Stopped, after_stop, committed, run_step, wake_step}
use Rattle.token.specs.declared.due.Due.{Due}
use Rattle.token.specs.declared.due.Due.TheVariants as due
use Rattle.token.specs.declared.need.Need.{Need}
use Rattle.token.specs.declared.outcome.RunOutcome.{RunOutcome}
use Rattle.segment.specs.declared.segment_end.SegmentEnd.{SegmentEnd}
use Rattle.token.proofs.Dues.{keeper_is, keeper_ready, ready_is}
use Rattle.token.proofs.Duties.{due_is, has_due}
use Rattle.token.proofs.Followers.{follower}
use Rattle.token.proofs.Standing.{stands_next}
use Rattle.token.proofs.Versions.{version_last}

-- the base of who is due

record IsBase (point : Point) (who : Due) (number : ℕ) (base : State) : Type 0 where
  number_is : number ≡ base_number_at point who
  memory : base.memory ≡ (base_at point who).memory
  threads : base.threads ≡ (base_at point who).threads

last_is : (point : Point) (history : History) → StandsAfter point history → version point.setup history (length history) ≡ point.state
last_is point history stands = version_last point.setup history ∙ stands.state

base_is : (point : Point) (history : History) → StandsAfter point history → (who : Due)
    → IsBase point who (base_of history point.phase who) (version point.setup history (base_of history point.phase who))
base_is point history stands (due.Fresh thread) =
    let there = ap (version point.setup history) stands.first in
    record {
      number_is = stands.first;
      memory = ap (λ (state : State). state.memory) there ∙ stands.base;
      threads = ap (λ (state : State). state.threads) there ∙ stands.base_threads;
    }
base_is point history stands (due.Keeper thread) =
    let there = last_is point history stands in
    record { number_is = stands.done; memory = ap (λ (state : State). state.memory) there; threads = ap (λ (state : State). state.threads) there }
base_is point history stands (due.Woken thread mutex) =
    let there = last_is point history stands in
    record { number_is = stands.done; memory = ap (λ (state : State). state.memory) there; threads = ap (λ (state : State). state.threads) there }

-- the row of a thread, by the threads of its state
same_row : (state other : State) (thread : ℕ) → state.threads ≡ other.threads → row_of state thread ≡ row_of other thread
same_row state other thread same = ap (λ (threads : List Thread). unwrap_or (slice_get threads thread) blank) same

-- the step of a thread whose segment ended

abbrev ran_of : SegmentEnd → Memory → Ran
ran_of end memory = record { hart = end.hart; memory = memory; stop = end.stop; count = end.count }

-- the step by the bytes that the thread changed
abbrev step_by_bytes : State → ℕ → ℕ → ℕ → ℕ → ByteMap → SegmentEnd → Step
step_by_bytes state phase thread number executed bytes end =
    let stopped : Stopped = after_stop (committed_bytes state thread bytes end.hart (executed + end.count)) thread end.hart end.stop in
    let addresses : List ℕ = addresses_of bytes in
    record {
      turn = record { phase = phase; thread = thread; base = number; stop = stopped.stop; changed = length addresses; ran = end.count };
      changes = addresses;
      after = stopped.state;
    }

by_bytes : (state : State) (phase thread number : ℕ) (copy : Memory) (executed : ℕ) (end : SegmentEnd) (memory : Memory)
    → run_step state phase thread number copy executed (ran_of end memory) ≡ step_by_bytes state phase thread number executed (changes copy memory) end
unfolding run_step committed committed_bytes
by_bytes state phase thread number copy executed end memory = refl

same_step : (point : Point) (history : History) → StandsAfter point history → (who : Due) (end : SegmentEnd) (memory : Memory)
    → end.patch ≡ changes (base_at point who).memory memory
    → let number : ℕ = base_of history point.phase who in
    let base : State = version point.setup history number in
    run_step (present point.setup history) point.phase (thread_due who) number base.memory (row_of base (thread_due who)).executed (ran_of end memory) ≡ ran_step point who end
unfolding ran_step
same_step point history stands who end memory patch =
    let number : ℕ = base_of history point.phase who in
    let base : State = version point.setup history number in
    let thread : ℕ = thread_due who in
    let is = base_is point history stands who in
    let bytes : changes base.memory memory ≡ end.patch = ap (λ (copy : Memory). changes copy memory) is.memory ∙ sym patch in
    by_bytes (present point.setup history) point.phase thread number base.memory (row_of base thread).executed end memory
    ∙ ap (λ (now : State). step_by_bytes now point.phase thread number (row_of base thread).executed (changes base.memory memory) end) stands.state
    ∙ ap (λ (n : ℕ). step_by_bytes point.state point.phase thread n (row_of base thread).executed (changes base.memory memory) end) is.number_is
    ∙ ap (λ (row : Thread). step_by_bytes point.state point.phase thread (base_number_at point who) row.executed (changes base.memory memory) end) (same_row base (base_at point who) thread is.threads)
    ∙ ap (λ (bytes : ByteMap). step_by_bytes point.state point.phase thread (base_number_at point who) (row_of (base_at point who) thread).executed bytes end) bytes

-- its segment
segment_from : (setup : Setup) (base other : State) (thread : ℕ) (quantum : Option ℕ) (ran : Ran) → base.memory ≡ other.memory → base.threads ≡ other.threads
    → IsSegmentFrom setup other thread quantum ran → IsSegmentFrom setup base thread quantum ran
segment_from setup base other thread quantum ran memory threads segment =
    let with_memory : Segment (row_of other thread).hart base.memory (setup.bound - (row_of other thread).executed) quantum ran.stop ran.count ran.hart ran.memory =
    subst (λ (copy : Memory). Segment (row_of other thread).hart copy (setup.bound - (row_of other thread).executed) quantum ran.stop ran.count ran.hart ran.memory) (sym memory) segment in
    subst (λ (row : Thread). Segment row.hart base.memory (setup.bound - row.executed) quantum ran.stop ran.count ran.hart ran.memory) (sym (same_row base other thread threads)) with_memory

-- the run hasn't ended

running : (last : Option RunOutcome) (quiet : Bool) (there : RunOutcome) → (if is_some last then last else (if quiet then Some there else None)) ≡ None → last ≡ None
running (Some ends) quiet there is = is
running None quiet there is = refl

cut_is : (point : Point) (history : History) → StandsAfter point history → point.ended ≡ None → last_outcome history ≡ None
unfolding outcome
cut_is point history stands going = running (last_outcome history) (is_quiet point.setup history) _ (stands.ended ∙ going)

-- what is needed of a run that goes on
going_by : (point : Point) (ended : Option RunOutcome) (asked : Need) (end : Option SegmentEnd) → IsNeededBy point (need_by ended asked) end → (ended ≡ None) × IsNeededBy point asked end
going_by point (Some ends) asked (Some end) needed = absurd needed
going_by point (Some ends) asked None needed = absurd needed
going_by point None asked end needed = (refl, needed)

needed_at : (point : Point) (end : Option SegmentEnd) → IsNeededAt point end → (point.ended ≡ None) × IsNeededBy point (need_of point (due_at point)) end
unfolding need_at
needed_at point end needed = going_by point point.ended (need_of point (due_at point)) end needed

-- the step follows

ran_follows : (point : Point) (history : History) → StandsAfter point history → (who : Due) (end : SegmentEnd) → IsDue point.setup history point.phase who → last_outcome history ≡ None
    → IsNeededBy point (need_of point who) (Some end) → Follows point.setup history (ran_step point who end)
ran_follows point history stands (due.Fresh thread) end is cut ended =
    let base = base_is point history stands (due.Fresh thread) in
    let ran : Ran = ran_of end ended.memory in
    let segment = segment_from point.setup (version point.setup history (base_of history point.phase (due.Fresh thread))) (base_at point (due.Fresh thread)) thread (quantum_in point.setup point.phase thread point.base_threads) ran base.memory base.threads ended.segment_is in
    let private : RunsPrivately point.setup (version point.setup history (base_of history point.phase (due.Fresh thread))) point.phase (due.Fresh thread) ran =
    subst (λ (threads : List Thread). IsSegmentFrom point.setup (version point.setup history (base_of history point.phase (due.Fresh thread))) thread (quantum_in point.setup point.phase thread threads) ran) (sym base.threads) segment in
    subst (Follows point.setup history) (same_step point history stands (due.Fresh thread) end ended.memory ended.patch)
    (follower point.setup history point.phase (due.Fresh thread) ran is private cut)
ran_follows point history stands (due.Keeper thread) end is cut ended =
    let base = base_is point history stands (due.Keeper thread) in
    let ran : Ran = ran_of end ended.memory in
    let segment = segment_from point.setup (version point.setup history (base_of history point.phase (due.Keeper thread))) (base_at point (due.Keeper thread)) thread None ran base.memory base.threads ended.segment_is in
    subst (Follows point.setup history) (same_step point history stands (due.Keeper thread) end ended.memory ended.patch)
    (follower point.setup history point.phase (due.Keeper thread) ran is segment cut)
ran_follows point history stands (due.Woken thread mutex) end is cut needed = absurd needed

wake_follows : (point : Point) (history : History) → StandsAfter point history → (who : Due) → IsDue point.setup history point.phase who → last_outcome history ≡ None
    → IsNeededBy point (need_of point who) None → Follows point.setup history (woken_step point who)
unfolding woken_step
wake_follows point history stands (due.Fresh thread) is cut needed = absurd needed
wake_follows point history stands (due.Keeper thread) is cut needed = absurd needed
wake_follows point history stands (due.Woken thread mutex) is cut needed =
    let same : wake_step (present point.setup history) point.phase thread (length history) mutex ≡ wake_step point.state point.phase thread point.done mutex =
    ap (λ (now : State). wake_step now point.phase thread (length history) mutex) stands.state
    ∙ ap (λ (n : ℕ). wake_step point.state point.phase thread n mutex) (stands.done) in
    subst (Follows point.setup history) same (follower point.setup history point.phase (due.Woken thread mutex) tt is tt cut)

pub step_follows : (point : Point) (history : History) (end : Option SegmentEnd) → StandsAfter point history → Invariants point → IsNeededAt point end → Follows point.setup history (step_at point end)
step_follows point history (Some end) stands holds needed =
    let asked = needed_at point (Some end) needed in
    ran_follows point history stands (due_at point) end (due_is point history stands holds asked.0) (cut_is point history stands asked.0) asked.1
step_follows point history None stands holds needed =
    let asked = needed_at point None needed in
    wake_follows point history stands (due_at point) (due_is point history stands holds asked.0) (cut_is point history stands asked.0) asked.1

phase_and_thread : (point : Point) (end : Option SegmentEnd) → ((step_at point end).turn.phase ≡ point.phase) × ((step_at point end).turn.thread ≡ thread_due (due_at point))
unfolding ran_step woken_step wake_step
phase_and_thread point (Some end) = (refl, refl)
phase_and_thread point None = (refl, refl)

-- the run stands after the longer history
pub turn_stands : (point : Point) (history : History) (end : Option SegmentEnd) → StandsAfter point history → Invariants point → IsNeededAt point end
    → StandsAfter (moved point (step_at point end)) (step_at point end ∷ history) × Invariants (moved point (step_at point end))
turn_stands point history end stands holds needed =
    let same = phase_and_thread point end in
    stands_next point history (step_at point end) stands holds (step_follows point history end stands holds needed) same.0 same.1 (holds.next (needed_at point end needed).0)

pub needed_due : (point : Point) (history : History) (end : Option SegmentEnd) → StandsAfter point history → Invariants point → IsNeededAt point end → HasDue point
needed_due point history end stands holds needed = has_due point history stands holds (needed_at point end needed).0

-- a segment executes no more than it may

after_some : (hart : HartState) (memory : Memory) (more count : ℕ) (state : HartState × Memory) → after (more + count) hart memory ≡ Some state
    → (other : HartState × Memory) × (after count hart memory ≡ Some other)
unfolding after
after_some hart memory zero count state is = let same : zero + count ≡ count = omega arith in (state, subst (λ n. after n hart memory ≡ Some state) same is)
after_some hart memory (suc more) count state is =
    let same : suc more + count ≡ suc (more + count) = omega arith in
    let last = some_before (after (more + count) hart memory) state (subst (λ n. after n hart memory ≡ Some state) same is) in
    after_some hart memory more count last.0 last.1
  where
    some_before : (before : Option (HartState × Memory)) (state : HartState × Memory) → option_and_then (λ state. left_by (next state.0 state.1)) before ≡ Some state
        → (other : HartState × Memory) × (before ≡ Some other)
    some_before None state is = cc
    some_before (Some other) state is = (other, refl)

stop_at_bound : (left : ℕ) (quantum : Option ℕ) (what : Next) → stop_at left quantum left what ≡ Some (Trapped bound_trap)
unfolding stop_at
stop_at_bound left quantum what = rw (eq-eqb left left refl) refl

stops_at_bound : (hart : HartState) (memory : Memory) (left : ℕ) (quantum : Option ℕ) (state : HartState × Memory) → after left hart memory ≡ Some state
    → stop_after hart memory left quantum left ≡ Some (Trapped bound_trap)
unfolding stop_after
stops_at_bound hart memory left quantum state is = rw is (stop_at_bound left quantum (next state.0 state.1))

pub count_within : (hart : HartState) (memory : Memory) (left : ℕ) (quantum : Option ℕ) (stop : Stop) (count : ℕ) (last_hart : HartState) (last_memory : Memory)
    → Segment hart memory left quantum stop count last_hart last_memory → count ≤ left
count_within hart memory left quantum stop count last_hart last_memory segment =
    let steps : segment.steps ≤ left =
    elim (cases_lt left segment.steps) [
      | inl over ↦
          let split : (segment.steps - left) + left ≡ segment.steps = omega arith in
          let there = after_some hart memory (segment.steps - left) left (last_hart, last_memory) (subst (λ n. after n hart memory ≡ Some (last_hart, last_memory)) (sym split) segment.reached) in
          let stop : Some (Trapped bound_trap) ≡ None = sym (stops_at_bound hart memory left quantum there.0 there.1) ∙ segment.running left over in
          cc stop
      | inr within ↦ within
    ] in
    subst (λ n. n ≤ left) (sym segment.count_is) (by_stop hart memory left quantum segment.steps stop (last_hart, last_memory) steps segment.reached segment.stops)
  where
    by_stop : (hart : HartState) (memory : Memory) (left : ℕ) (quantum : Option ℕ) (steps : ℕ) (stop : Stop) (state : HartState × Memory) → steps ≤ left
        → after steps hart memory ≡ Some state → stop_after hart memory left quantum steps ≡ Some stop → counted stop steps ≤ left
    by_stop hart memory left quantum steps (Trapped trap) state within reached stops = within
    by_stop hart memory left quantum steps Quantum state within reached stops = within
    by_stop hart memory left quantum steps Ecall state within reached stops =
        elim (cases_eq steps left) [
          | inl last ↦
              let bound = stops_at_bound hart memory left quantum state (subst (λ n. after n hart memory ≡ Some state) last reached) in
              let here : stop_after hart memory left quantum left ≡ Some Ecall = subst (λ n. stop_after hart memory left quantum n ≡ Some Ecall) last stops in
              absurd (other_stop (sym bound ∙ here))
          | inr other ↦ omega (arith, other)
        ]
      where
        other_stop : Some (Trapped bound_trap) ≡ Some Ecall → ⊥
        other_stop same = cc

-- who is due may end its segment so

ready_by : (point : Point) (history : History) → StandsAfter point history → (who : Due) (end : SegmentEnd) → IsDue point.setup history point.phase who
    → IsNeededBy point (need_of point who) (Some end) → (row_of point.state (thread_due who)).status ≡ Ready
ready_by point history stands (due.Fresh thread) end is needed = sym (ap (λ (state : State). (row_of state thread).status) stands.state) ∙ is.2
ready_by point history stands (due.Keeper thread) end is needed =
    let kept = keeper_is history thread is.0 in
    sym (ap (λ (state : State). (row_of state thread).status) stands.state)
    ∙ subst (λ (n : ℕ). (row_of (present point.setup history) n).status ≡ Ready) kept.1 (ready_is _ (keeper_ready point.setup history kept.0))
ready_by point history stands (due.Woken thread mutex) end is needed = absurd needed

within_by : (point : Point) (who : Due) (end : SegmentEnd) → IsNeededBy point (need_of point who) (Some end) → end.count ≤ point.setup.bound - (row_of (base_at point who) (thread_due who)).executed
within_by point (due.Fresh thread) end needed = count_within _ _ _ _ _ _ _ _ needed.segment_is
within_by point (due.Keeper thread) end needed = count_within _ _ _ _ _ _ _ _ needed.segment_is
within_by point (due.Woken thread mutex) end needed = absurd needed

woken_by : (point : Point) (history : History) → StandsAfter point history → (who : Due) → IsDue point.setup history point.phase who
    → IsNeededBy point (need_of point who) None → (row_of point.state (thread_due who)).status ≡ Woken (mutex_due who)
woken_by point history stands (due.Fresh thread) is needed = absurd needed
woken_by point history stands (due.Keeper thread) is needed = absurd needed
woken_by point history stands (due.Woken thread mutex) is needed = sym (ap (λ (state : State). (row_of state thread).status) stands.state) ∙ is.2

-- who is due may have its turn
pub may_turn : (point : Point) (history : History) (end : Option SegmentEnd) → StandsAfter point history → Invariants point → IsNeededAt point end → MayTurn point end
may_turn point history (Some end) stands holds needed =
    let asked = needed_at point (Some end) needed in
    let is = due_is point history stands holds asked.0 in
    record { ready = ready_by point history stands (due_at point) end is asked.1; within = within_by point (due_at point) end asked.1; bound = holds.bound }
may_turn point history None stands holds needed =
    let asked = needed_at point None needed in
    woken_by point history stands (due_at point) (due_is point history stands holds asked.0) asked.1
