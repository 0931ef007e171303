-- What one turn more makes of what is known of a run.
use Rattle.std.proofs.Common.{◌≡◌, ℕ, ◌+◌, ◌==◌, Bool, true, false, Option, Some, None, List, [], ◌∷◌, ◌++◌, length, refl, sym, ◌∙◌, ap, arith, eqb-true, eq-eqb, if◌then◌else◌}
use Rattle.std.proofs.lemmas.List.Sums.{fold_push, sum_by-cons}
use Rattle.token.specs.Change.{Change}
use Rattle.token.specs.declared.turn.Turn.{Turn}
use Rattle.std.proofs.lemmas.List.FromFn.{fill_by_all}
use Rattle.std.specs.Prelude.{filter, max}
use Rattle.trace_events.specs.Ending.{thread_states}
use Rattle.trace_events.specs.Events.{is_in_phase}
use Rattle.trace_events.specs.Recording.{Knows, blank, phase_at, phase_of, state_at}
use Rattle.trace_events.specs.Waits.{let_go, release_of, wait_of}
use Rattle.trace_events.specs.declared.run_progress.RunProgress.{RunProgress}
use Rattle.trace_events.specs.declared.waiting_thread.WaitingThread.{WaitingThread}
use Rattle.trace_events.specs.Threads.{above, arrival, in_use, instructions, waiting, without, due, freed, instructions_of, is_among, is_of, last_of, pages_in, ready_in, state_after, state_due, thread_state, token_of, token_wait}
use Rattle.trace_events.specs.Timeline.{entries_of, entry_of}
use Rattle.trace_events.specs.Times.{keeps, newest, now, start, timed, timed_turn}
use Rattle.trace_events.specs.declared.recorded_turn.RecordedTurn.{RecordedTurn}
use Rattle.trace_events.specs.declared.phase_counts.PhaseCounts.{PhaseCounts}
use Rattle.trace_events.specs.declared.thread_state.ThreadState.{ThreadState}
use Rattle.trace_events.specs.declared.timed_turn.TimedTurn.{TimedTurn}

pub timed_more : (entries : List RecordedTurn) (entry : RecordedTurn) → timed (entries ++ entry ∷ []) ≡ timed_turn (timed entries) entry ∷ timed entries
unfolding timed
timed_more entries entry = fold_push (λ (done : List TimedTurn) (entry : RecordedTurn). timed_turn done entry ∷ done) [] entries entry

pub entries_more : (turns : List Turn) (changes : List Change) (turn : Turn) (change : Change) → length changes ≡ length turns
    → entries_of (turns ++ turn ∷ []) (changes ++ change ∷ []) ≡ entries_of turns changes ++ entry_of turn change ∷ []
unfolding entries_of
entries_more [] [] turn change same = refl
entries_more [] (other ∷ changes) turn change same = absurd (omega arith)
entries_more (one ∷ turns) [] turn change same = absurd (omega arith)
entries_more (one ∷ turns) (other ∷ changes) turn change same =
    ap (λ (rest : List RecordedTurn). entry_of one other ∷ rest) (entries_more turns changes turn change (omega arith))

-- what is counted of a phase, by its parts
abbrev pub counted : (start ready pages : ℕ) → PhaseCounts
counted start ready pages = record { start = start; ready = ready; pages = pages }

-- a phase that goes on is that of the last turn
pub in_phase : (done : List TimedTurn) (phase : ℕ) → is_in_phase phase (newest done) ≡ true → phase_of done (newest done) ≡ phase_at done phase
in_phase [] phase is = cc
in_phase (timed ∷ before) phase is = ap (phase_at (timed ∷ before)) (eqb-true timed.turn.phase phase is)

-- another begins with the last turn
pub new_phase : (done : List TimedTurn) (phase : ℕ) → is_in_phase phase (newest done) ≡ false → counted (now done) 0 0 ≡ phase_at done phase
unfolding start ready_in pages_in
new_phase [] phase is = refl
new_phase (timed ∷ before) phase is = rw is refl

-- a phase has one turn more
pub phase_more : (done : List TimedTurn) (timed : TimedTurn) (before : PhaseCounts) (more : ℕ) → before ≡ phase_at done timed.turn.phase → more ≡ (if keeps done timed.turn then 0 else 1)
    → counted before.start (before.ready + more) (before.pages + timed.pages) ≡ phase_at (timed ∷ done) timed.turn.phase
unfolding start ready_in pages_in
phase_more done timed before more is counts =
    let same : (timed.turn.phase == timed.turn.phase) ≡ true = eq-eqb timed.turn.phase timed.turn.phase refl in
    let starts : before.start ≡ start done timed.turn.phase = ap (λ (one : PhaseCounts). one.start) is in
    let ready : before.ready ≡ ready_in done timed.turn.phase = ap (λ (one : PhaseCounts). one.ready) is in
    let pages : before.pages ≡ pages_in done timed.turn.phase = ap (λ (one : PhaseCounts). one.pages) is in
    rw same cc

-- what is known of a thread, by its parts
abbrev state : (last due : Option TimedTurn) (instructions token : ℕ) → ThreadState
state last due instructions token = record { last = last; due = due; instructions = instructions; token = token }

same_state : (last due : Option TimedTurn) (instructions more token waited : ℕ) → instructions ≡ more → token ≡ waited
    → state last due instructions token ≡ state last due more waited
same_state last due instructions more token waited one other = cc

-- what is known of a thread after another's turn
let_go_by : (done : List TimedTurn) (timed : TimedTurn) (thread : ℕ) (freed : Bool) → state_due freed timed (thread_state done thread)
    ≡ state (last_of thread done) (if freed then Some timed else due thread done) (0 + instructions_of thread done) (0 + token_of thread done)
let_go_by done timed thread true = same_state (last_of thread done) (Some timed) _ _ _ _ (omega arith) (omega arith)
let_go_by done timed thread false = same_state (last_of thread done) (due thread done) _ _ _ _ (omega arith) (omega arith)

-- what is known of a thread after one turn more
state_by : (done : List TimedTurn) (timed : TimedTurn) (thread : ℕ) (own : Bool) → is_of thread timed ≡ own
    → state_after (freed done timed) timed thread (thread_state done thread) ≡ thread_state (timed ∷ done) thread
unfolding due last_of instructions_of token_of
state_by done timed thread true is =
    let ran = sum_by-cons (λ (one : TimedTurn). if is_of thread one then one.turn.ran else 0) timed done in
    let waited = sum_by-cons (λ (one : TimedTurn). if is_of thread one then token_wait one else 0) timed done in
    rw (ran, waited, is) (same_state (Some timed) None _ _ _ _ (omega arith) (omega arith))
state_by done timed thread false is =
    let ran = sum_by-cons (λ (one : TimedTurn). if is_of thread one then one.turn.ran else 0) timed done in
    let waited = sum_by-cons (λ (one : TimedTurn). if is_of thread one then token_wait one else 0) timed done in
    rw (ran, waited, is) (let_go_by done timed thread (is_among thread (freed done timed)))

pub state_more : (done : List TimedTurn) (timed : TimedTurn) (thread : ℕ)
    → state_after (freed done timed) timed thread (thread_state done thread) ≡ thread_state (timed ∷ done) thread
state_more done timed thread = state_by done timed thread (is_of thread timed) refl

-- all that is known of a run after one turn more
pub Knows-more : (before after : RunProgress) (done : List TimedTurn) (timed : TimedTurn) (threads : List ℕ)
    → threads ≡ let_go (release_of timed.turn.thread timed.turn.stop) before.waiters.items
    → after.last ≡ Some timed → after.phase ≡ phase_at (timed ∷ done) timed.turn.phase → after.instructions ≡ before.instructions + timed.turn.ran
    → after.waiters.items ≡ without threads before.waiters.items ++ arrival timed.turn.thread (wait_of timed.turn.stop)
    → length after.threads.items ≡ max (above (length before.threads.items) threads) (timed.turn.thread + 1)
    → ((thread : ℕ) → state_at after.threads.items thread ≡ state_after threads timed thread (state_at before.threads.items thread))
    → Knows before done → Knows after (timed ∷ done)
unfolding waiting in_use instructions
Knows-more before after done timed threads are last phase ran waiters grown states has =
    let freed_are : threads ≡ freed done timed = are ∙ ap (let_go (release_of timed.turn.thread timed.turn.stop)) has.waiters in
    let sum = sum_by-cons (λ (one : TimedTurn). one.turn.ran) timed done in
    let was = has.instructions in
    record {
      last = last;
      phase = phase;
      instructions = omega (arith, sum, ran, was);
      waiters =
          waiters
          ∙ ap (λ (all : List ℕ). without all before.waiters.items ++ arrival timed.turn.thread (wait_of timed.turn.stop)) freed_are
          ∙ ap (λ (all : List WaitingThread). without (freed done timed) all ++ arrival timed.turn.thread (wait_of timed.turn.stop)) has.waiters;
      in_use =
          grown
          ∙ ap (λ (all : List ℕ). max (above (length before.threads.items) all) (timed.turn.thread + 1)) freed_are
          ∙ ap (λ (count : ℕ). max (above count (freed done timed)) (timed.turn.thread + 1)) has.in_use;
      threads = λ thread.
          states thread
          ∙ ap (state_after threads timed thread) (has.threads thread)
          ∙ ap (λ (all : List ℕ). state_after all timed thread (thread_state done thread)) freed_are
          ∙ state_more done timed thread;
    }

-- nobody leaves if nobody is let go
all_stay : (waiters : List WaitingThread) → filter (λ waiter. true) waiters ≡ waiters
all_stay [] = refl
all_stay (waiter ∷ waiters) = ap (λ (rest : List WaitingThread). waiter ∷ rest) (all_stay waiters)

pub none_leave : (threads : List ℕ) (waiters : List WaitingThread) → (length threads == 0) ≡ true → waiters ≡ without threads waiters
none_leave [] waiters empty = sym (all_stay waiters)
none_leave (thread ∷ threads) waiters empty = absurd (omega (arith, eqb-true (length (thread ∷ threads)) 0 empty))

-- the threads that are known are all there are
pub states_are : (items : List ThreadState) (done : List TimedTurn) → length items ≡ in_use done → ((thread : ℕ) → state_at items thread ≡ thread_state done thread)
    → items ≡ thread_states done
states_are items done long same = fill_by_all (thread_state done) items (in_use done) blank long (λ thread inside. same thread)
