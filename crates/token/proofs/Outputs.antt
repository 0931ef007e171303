-- No turn shortens the output.
use Rattle.std.proofs.Common.{◌≡◌, ℕ, ◌%◌, Bool, true, false, ◌==◌, if◌then◌else◌, Option, Some, None, List, [], ◌++◌, refl, sym, subst, append-nil}
use Rattle.abi.specs.declared.call.Call.{Call}
use Rattle.abi.specs.declared.call.Call.TheVariants as call
use Rattle.condvar_barrier.specs.Objects.{ObjectState}
use Rattle.condvar_barrier.specs.Rows.{Outcome}
use Rattle.ecalls.specs.Request.{call_of}
use Rattle.hart.specs.HartState.{HartState}
use Rattle.hart.specs.declared.stop.Stop.{Stop}
use Rattle.hart.specs.declared.stop.Stop.TheVariants as stopped
use Rattle.thread_table.specs.Threads.{new_number}
use Rattle.token.specs.Setup.{Setup}
use Rattle.call_table.specs.State.{State, row_of}
use Rattle.token.specs.Due.{PrivateRun}
use Rattle.token.specs.History.{History, present, version}
use Rattle.token.specs.Legal.{Follows, step_of}
use Rattle.token.specs.Turns.{Ran, Step, after_stop, committed, run_step, wake_step}
use Rattle.token.specs.declared.due.Due.{Due}
use Rattle.token.specs.declared.due.Due.TheVariants as due
use Rattle.call_table.specs.Effects.{Effect, by_objects, create, create_numbered, effect, join, new_pages, read, release, settled, thread_exit, write}

-- an output begins with another
pub record Extends (output other : List ℕ) : Type 0 where
  pub more : List ℕ
  pub is : other ≡ output ++ more

same_output : (output : List ℕ) → Extends output output
same_output output = record { more = []; is = sym (append-nil output) }

-- the output after a call begins with that before it
abbrev Writes : State → Effect → Type 0
Writes state outcome = Extends state.output outcome.state.output

either_writes : (state : State) (test : Bool) (one other : Effect) → Writes state one → Writes state other → Writes state (if test then one else other)
either_writes state true one other first second = first
either_writes state false one other first second = second

by_objects_writes : (row : ObjectState → Outcome) (state : State) → Writes state (by_objects row state)
unfolding by_objects
by_objects_writes row state = same_output state.output

thread_exit_writes : (state : State) (thread value : ℕ) → Writes state (thread_exit state thread value)
unfolding thread_exit
thread_exit_writes state thread value = same_output state.output

numbered_writes : (state : State) (entry argument stack_pointer : ℕ) (number : Option ℕ) → Writes state (create_numbered state entry argument stack_pointer number)
numbered_writes state entry argument stack_pointer None = same_output state.output
numbered_writes state entry argument stack_pointer (Some number) = same_output state.output

create_writes : (state : State) (entry argument stack_pointer : ℕ) → Writes state (create state entry argument stack_pointer)
unfolding create
create_writes state entry argument stack_pointer =
    either_writes state (entry % 4 == 0) (create_numbered state entry argument stack_pointer (new_number state.threads)) _
    (numbered_writes state entry argument stack_pointer (new_number state.threads)) (same_output state.output)

written : (output bytes : List ℕ) → Extends output (output ++ bytes)
written output bytes = record { more = bytes; is = refl }

write_writes : (state : State) (address count : ℕ) → Writes state (write state address count)
unfolding write
write_writes state address count = search (same_output, either_writes, written)

read_writes : (state : State) (address count : ℕ) → Writes state (read state address count)
unfolding read
read_writes state address count = search (same_output, either_writes)

new_pages_writes : (state : State) (count : ℕ) → Writes state (new_pages state count)
unfolding new_pages
new_pages_writes state count = search (same_output, either_writes)

release_writes : (state : State) (address count : ℕ) → Writes state (release state address count)
unfolding release
release_writes state address count = search (same_output, either_writes)

join_writes : (state : State) (thread n : ℕ) → Writes state (join state thread n)
unfolding join
join_writes state thread n = same_output state.output

effect_writes : (state : State) (thread : ℕ) (made : Call) → Writes state (effect state thread made)
unfolding effect
effect_writes state thread (call.Exit status) = same_output state.output
effect_writes state thread (call.ThreadExit value) = thread_exit_writes state thread value
effect_writes state thread (call.Create entry argument stack_pointer) = create_writes state entry argument stack_pointer
effect_writes state thread (call.Join number) = join_writes state thread number
effect_writes state thread (call.Lock mutex) = by_objects_writes _ state
effect_writes state thread (call.Unlock mutex) = by_objects_writes _ state
effect_writes state thread (call.Wait condition mutex) = by_objects_writes _ state
effect_writes state thread (call.Signal condition) = by_objects_writes _ state
effect_writes state thread (call.Broadcast condition) = by_objects_writes _ state
effect_writes state thread (call.Barrier number count) = by_objects_writes _ state
effect_writes state thread (call.Write address count) = write_writes state address count
effect_writes state thread (call.Read address count) = read_writes state address count
effect_writes state thread (call.Memory count) = new_pages_writes state count
effect_writes state thread call.Sync = same_output state.output
effect_writes state thread (call.Release address count) = release_writes state address count
effect_writes state thread (call.Unknown number) = same_output state.output

after_stop_writes : (state : State) (thread : ℕ) (hart : HartState) (stop : Stop) → Extends state.output (after_stop state thread hart stop).state.output
unfolding after_stop settled
after_stop_writes state thread hart (stopped.Trap trap) = same_output state.output
after_stop_writes state thread hart stopped.Quantum = same_output state.output
after_stop_writes state thread hart stopped.Ecall = effect_writes state thread (call_of hart)

run_writes : (state base : State) (phase thread number : ℕ) (ran : Ran) → Extends state.output (run_step state phase thread number base.memory (row_of base thread).executed ran).after.output
unfolding run_step committed
run_writes state base phase thread number ran =
    after_stop_writes (committed state thread base.memory (row_of base thread).executed ran) thread ran.hart ran.stop

step_writes : (state base : State) (phase number : ℕ) (who : Due) (ran : PrivateRun who) → Extends state.output (step_of state base phase number who ran).after.output
unfolding wake_step
step_writes state base phase number (due.Fresh thread) ran = run_writes state base phase thread number ran
step_writes state base phase number (due.Keeper thread) ran = run_writes state base phase thread number ran
step_writes state base phase number (due.Woken thread mutex) ran = same_output state.output

pub output_grows : (setup : Setup) (before : History) (step : Step) → Follows setup before step → Extends (present setup before).output step.after.output
output_grows setup before step follows =
    subst (λ made. Extends (present setup before).output made.after.output) (sym follows.commit_then_call)
    (step_writes (present setup before) (version setup before step.turn.base) step.turn.phase step.turn.base follows.who follows.ran)
