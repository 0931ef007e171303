-- Only the thread of a turn comes to hold a mutex in it.
use Rattle.std.proofs.Common.{◌≡◌, ◌⊎◌, ℕ, zero, suc, ◌%◌, Bool, true, false, not, ◌||◌, ◌==◌, nat_le, if◌then◌else◌, Option, Some, None, List, [], ◌∷◌, map, slice_set, refl, ap, sym, ◌∙◌, subst, inl, inr}
use Rattle.std.specs.List.{list_any}
use Rattle.std.proofs.lemmas.Bool.{or_cases, or_left, or_right, eqb-true}
use Rattle.abi.specs.declared.call.Call.{Call}
use Rattle.abi.specs.declared.call.Call.TheVariants as call
use Rattle.condvar_barrier.specs.Objects.{ObjectState, holds, holds_mutex, is_held_by, with_holder, with_waiter, without}
use Rattle.condvar_barrier.specs.declared.wait_place.WaitPlace.{WaitPlace}
use Rattle.condvar_barrier.specs.declared.wait_place.WaitPlace.TheVariants.{Condition}
use Rattle.abi.specs.declared.code.Code.TheVariants.{BadArgument, NotHolder, HoldsLock}
use Rattle.abi.specs.declared.reply.Reply.TheVariants.{Waits}
use Rattle.abi.specs.Limits as limit
use Rattle.condvar_barrier.specs.Rows.{Outcome, refused, replied, barrier, broadcast, lock, release_all, released_by, signal, take_back, unlock, wait}
use Rattle.ecalls.specs.Request.{call_of}
use Rattle.hart.specs.HartState.{HartState}
use Rattle.hart.specs.declared.stop.Stop.{Stop}
use Rattle.hart.specs.declared.stop.Stop.TheVariants as stopped
use Rattle.thread_table.specs.Threads.{new_number}
use Rattle.call_table.specs.Effects.{Effect, by_objects, create, create_numbered, effect, join, new_pages, read, release, settled, thread_exit, write}
use Rattle.token.specs.Due.{PrivateRun, thread_due}
use Rattle.token.specs.History.{History, present, version}
use Rattle.token.specs.Legal.{Follows, step_of}
use Rattle.call_table.specs.State.{row_of, State}
use Rattle.token.specs.Setup.{Setup}
use Rattle.token.specs.Turns.{Ran, Step, after_stop, committed, run_step, wake_step}
use Rattle.token.specs.declared.due.Due.{Due}
use Rattle.token.specs.declared.due.Due.TheVariants as due
use Rattle.token.proofs.Dues.{thread_is}

-- who holds a mutex is this thread
pub record OnlyHolder (thread : ℕ) (objects : ObjectState) : Type 0 where
  pub only : (n : ℕ) → holds objects n ≡ true → n ≡ thread

-- the holders

set_holder : (holders : List (Option ℕ)) (mutex : ℕ) (holder : Option ℕ) (n : ℕ) → list_any (is_held_by n) (slice_set holders mutex holder) ≡ true
    → (is_held_by n holder ≡ true) ⊎ (list_any (is_held_by n) holders ≡ true)
set_holder [] mutex holder n is = inr is
set_holder (first ∷ holders) zero holder n is =
    elim (or_cases (is_held_by n holder) (list_any (is_held_by n) holders) is) [ inl here ↦ inl here | inr there ↦ inr (or_right (is_held_by n first) (list_any (is_held_by n) holders) there) ]
set_holder (first ∷ holders) (suc mutex) holder n is =
    elim (or_cases (is_held_by n first) (list_any (is_held_by n) (slice_set holders mutex holder)) is) [
      | inl here ↦ inr (or_left (is_held_by n first) (list_any (is_held_by n) holders) here)
      | inr there ↦ elim (set_holder holders mutex holder n there) [ inl new ↦ inl new | inr old ↦ inr (or_right (is_held_by n first) (list_any (is_held_by n) holders) old) ]
    ]

released : (thread : ℕ) (holders : List (Option ℕ)) (n : ℕ) → list_any (is_held_by n) (map (released_by thread) holders) ≡ true → list_any (is_held_by n) holders ≡ true
released thread [] n is = is
released thread (first ∷ holders) n is =
    elim (or_cases (is_held_by n (released_by thread first)) (list_any (is_held_by n) (map (released_by thread) holders)) is) [
      | inl here ↦ or_left (is_held_by n first) (list_any (is_held_by n) holders) (one (is_held_by thread first) first n here)
      | inr there ↦ or_right (is_held_by n first) (list_any (is_held_by n) holders) (released thread holders n there)
    ]
  where
    one : (test : Bool) (holder : Option ℕ) (n : ℕ) → is_held_by n (if test then None else holder) ≡ true → is_held_by n holder ≡ true
    one true holder n is = cc
    one false holder n is = is

given_to : (objects : ObjectState) (thread mutex : ℕ) → OnlyHolder thread objects → OnlyHolder thread (with_holder objects mutex (Some thread))
unfolding with_holder holds
given_to objects thread mutex before =
    record { only = λ n is. elim (set_holder objects.holders mutex (Some thread) n is) [ inl new ↦ sym (eqb-true thread n new) | inr old ↦ before.only n old ] }

given_back : (objects : ObjectState) (thread mutex : ℕ) → OnlyHolder thread objects → OnlyHolder thread (with_holder objects mutex None)
unfolding with_holder holds
given_back objects thread mutex before =
    record { only = λ n is. elim (set_holder objects.holders mutex None n is) [ inl new ↦ no new | inr old ↦ before.only n old ] }
  where
    no : {n thread : ℕ} → false ≡ true → n ≡ thread
    no is = cc

same_holders : (objects other : ObjectState) (thread : ℕ) → other.holders ≡ objects.holders → OnlyHolder thread objects → OnlyHolder thread other
unfolding holds
same_holders objects other thread same before = record { only = λ n is. before.only n (ap (list_any (is_held_by n)) (sym same) ∙ is) }

all_released : (objects : ObjectState) (thread other : ℕ) → OnlyHolder thread objects → OnlyHolder thread (release_all objects other)
unfolding release_all holds
all_released objects thread other before = record { only = λ n is. before.only n (released other objects.holders n is) }

-- the rows

either : (thread : ℕ) (test : Bool) (one other : Outcome) → OnlyHolder thread one.objects → OnlyHolder thread other.objects → OnlyHolder thread (if test then one else other).objects
either thread true one other first second = first
either thread false one other first second = second

lock_only : (objects : ObjectState) (thread mutex : ℕ) → OnlyHolder thread objects → OnlyHolder thread (lock objects thread mutex).objects
unfolding lock
lock_only objects thread mutex before = search (either, given_to, before)

unlock_only : (objects : ObjectState) (thread mutex : ℕ) → OnlyHolder thread objects → OnlyHolder thread (unlock objects thread mutex).objects
unfolding unlock
unlock_only objects thread mutex before = search (either, given_back, before)

without_only : (objects : ObjectState) (threads : List ℕ) (thread : ℕ) → OnlyHolder thread objects → OnlyHolder thread (without objects threads)
unfolding without
without_only objects threads thread before = same_holders objects _ thread refl before

waiter_only : (objects : ObjectState) (waiting : ℕ) (place : WaitPlace) (thread : ℕ) → OnlyHolder thread objects → OnlyHolder thread (with_waiter objects waiting place)
unfolding with_waiter
waiter_only objects waiting place thread before = same_holders objects _ thread refl before

waits_only : (objects : ObjectState) (thread condition mutex : ℕ) → OnlyHolder thread objects → OnlyHolder thread (wait objects thread condition mutex).objects
unfolding wait
waits_only objects thread condition mutex before =
    let waits = waiter_only (with_holder objects mutex None) thread (Condition condition mutex) thread (given_back objects thread mutex before) in
    either thread (nat_le limit.objects condition || nat_le limit.objects mutex) (refused BadArgument objects) (if not (holds_mutex objects thread mutex) then refused NotHolder objects else (if holds (with_holder objects mutex None) thread then refused HoldsLock objects else replied Waits (with_waiter (with_holder objects mutex None) thread (Condition condition mutex)))) before
    (either thread (not (holds_mutex objects thread mutex)) (refused NotHolder objects) (if holds (with_holder objects mutex None) thread then refused HoldsLock objects else replied Waits (with_waiter (with_holder objects mutex None) thread (Condition condition mutex))) before
    (either thread (holds (with_holder objects mutex None) thread) (refused HoldsLock objects) (replied Waits (with_waiter (with_holder objects mutex None) thread (Condition condition mutex))) before waits))

signal_only : (objects : ObjectState) (thread condition : ℕ) → OnlyHolder thread objects → OnlyHolder thread (signal objects condition).objects
unfolding signal
signal_only objects thread condition before = search (either, without_only, before)

broadcast_only : (objects : ObjectState) (thread condition : ℕ) → OnlyHolder thread objects → OnlyHolder thread (broadcast objects condition).objects
unfolding broadcast
broadcast_only objects thread condition before = search (either, without_only, before)

barrier_only : (objects : ObjectState) (thread number count : ℕ) → OnlyHolder thread objects → OnlyHolder thread (barrier objects thread number count).objects
unfolding barrier
barrier_only objects thread number count before = search (either, without_only, waiter_only, before)

-- the calls

abbrev IsOnly : ℕ → Effect → Type 0
IsOnly thread outcome = OnlyHolder thread outcome.state.objects

either_effect : (thread : ℕ) (test : Bool) (one other : Effect) → IsOnly thread one → IsOnly thread other → IsOnly thread (if test then one else other)
either_effect thread true one other first second = first
either_effect thread false one other first second = second

by_objects_only : (thread : ℕ) (row : ObjectState → Outcome) (state : State) → OnlyHolder thread (row state.objects).objects → IsOnly thread (by_objects row state)
unfolding by_objects
by_objects_only thread row state after = after

thread_exit_only : (state : State) (thread value : ℕ) → OnlyHolder thread state.objects → IsOnly thread (thread_exit state thread value)
unfolding thread_exit
thread_exit_only state thread value before = all_released state.objects thread thread before

create_only : (state : State) (thread entry argument stack_pointer : ℕ) → OnlyHolder thread state.objects → IsOnly thread (create state entry argument stack_pointer)
unfolding create
create_only state thread entry argument stack_pointer before =
    either_effect thread (entry % 4 == 0) (create_numbered state entry argument stack_pointer (new_number state.threads)) _ (numbered (new_number state.threads)) before
  where
    numbered : (number : Option ℕ) → IsOnly thread (create_numbered state entry argument stack_pointer number)
    numbered None = before
    numbered (Some number) = before

write_only : (state : State) (thread address count : ℕ) → OnlyHolder thread state.objects → IsOnly thread (write state address count)
unfolding write
write_only state thread address count before = search (either_effect, before)

read_only : (state : State) (thread address count : ℕ) → OnlyHolder thread state.objects → IsOnly thread (read state address count)
unfolding read
read_only state thread address count before = search (either_effect, before)

new_pages_only : (state : State) (thread count : ℕ) → OnlyHolder thread state.objects → IsOnly thread (new_pages state count)
unfolding new_pages
new_pages_only state thread count before = search (either_effect, before)

release_only : (state : State) (thread address count : ℕ) → OnlyHolder thread state.objects → IsOnly thread (release state address count)
unfolding release
release_only state thread address count before = search (either_effect, before)

join_only : (state : State) (thread n : ℕ) → OnlyHolder thread state.objects → IsOnly thread (join state thread n)
unfolding join
join_only state thread n before = before

effect_only : (state : State) (thread : ℕ) (made : Call) → OnlyHolder thread state.objects → IsOnly thread (effect state thread made)
unfolding effect
effect_only state thread (call.Exit status) before = before
effect_only state thread (call.ThreadExit value) before = thread_exit_only state thread value before
effect_only state thread (call.Create entry argument stack_pointer) before = create_only state thread entry argument stack_pointer before
effect_only state thread (call.Join number) before = join_only state thread number before
effect_only state thread (call.Lock mutex) before = by_objects_only thread _ state (lock_only state.objects thread mutex before)
effect_only state thread (call.Unlock mutex) before = by_objects_only thread _ state (unlock_only state.objects thread mutex before)
effect_only state thread (call.Wait condition mutex) before = by_objects_only thread _ state (waits_only state.objects thread condition mutex before)
effect_only state thread (call.Signal condition) before = by_objects_only thread _ state (signal_only state.objects thread condition before)
effect_only state thread (call.Broadcast condition) before = by_objects_only thread _ state (broadcast_only state.objects thread condition before)
effect_only state thread (call.Barrier number count) before = by_objects_only thread _ state (barrier_only state.objects thread number count before)
effect_only state thread (call.Write address count) before = write_only state thread address count before
effect_only state thread (call.Read address count) before = read_only state thread address count before
effect_only state thread (call.Memory count) before = new_pages_only state thread count before
effect_only state thread call.Sync before = before
effect_only state thread (call.Release address count) before = release_only state thread address count before
effect_only state thread (call.Unknown number) before = before

-- a turn

after_stop_only : (state : State) (thread : ℕ) (hart : HartState) (stop : Stop) → OnlyHolder thread state.objects → OnlyHolder thread (after_stop state thread hart stop).state.objects
unfolding after_stop settled
after_stop_only state thread hart (stopped.Trap trap) before = before
after_stop_only state thread hart stopped.Quantum before = before
after_stop_only state thread hart stopped.Ecall before = effect_only state thread (call_of hart) before

run_only : (state base : State) (phase thread number : ℕ) (ran : Ran) → OnlyHolder thread state.objects
    → OnlyHolder thread (run_step state phase thread number base.memory (row_of base thread).executed ran).after.objects
unfolding run_step committed
run_only state base phase thread number ran before =
    after_stop_only (committed state thread base.memory (row_of base thread).executed ran) thread ran.hart ran.stop before

step_only : (state base : State) (phase number : ℕ) (who : Due) (ran : PrivateRun who) → OnlyHolder (thread_due who) state.objects
    → OnlyHolder (thread_due who) (step_of state base phase number who ran).after.objects
unfolding wake_step take_back
step_only state base phase number (due.Fresh thread) ran before = run_only state base phase thread number ran before
step_only state base phase number (due.Keeper thread) ran before = run_only state base phase thread number ran before
step_only state base phase number (due.Woken thread mutex) ran before = given_to state.objects thread _ before

-- Where who holds a mutex before a turn is the turn's thread, so is who holds one after it.
pub turn_only : (setup : Setup) (history : History) (step : Step) → Follows setup history step → OnlyHolder step.turn.thread (present setup history).objects
    → OnlyHolder step.turn.thread step.after.objects
turn_only setup history step follows before =
    let same = thread_is setup history step follows in
    subst (λ made. OnlyHolder step.turn.thread made.after.objects) (sym follows.commit_then_call)
    (subst (λ (n : ℕ). OnlyHolder n (step_of (present setup history) (version setup history step.turn.base) step.turn.phase step.turn.base follows.who follows.ran).after.objects) (sym same)
    (step_only (present setup history) (version setup history step.turn.base) step.turn.phase step.turn.base follows.who follows.ran
    (subst (λ (n : ℕ). OnlyHolder n (present setup history).objects) same before)))
