-- Threads that are let go, one after the other, and a call of the objects by what it comes to.
use Rattle.std.proofs.Common.{◌≡◌, Some, ℕ, ◌<◌, ◌≤◌, ◌+◌, List, sym, ap, length, get_or, drop}
use Rattle.std.proofs.lemmas.List.{at_drop_more, at_drop_all}
use Rattle.condvar_barrier.specs.Objects.{ObjectState}
use Rattle.condvar_barrier.specs.Rows.{Outcome}
use Rattle.condvar_barrier.specs.declared.woken.Woken.{Woken as WokenThread}
use Rattle.thread_table.specs.Threads.{with_status}
use Rattle.thread_table.specs.declared.thread.Thread.{Thread}
use Rattle.thread_table.specs.declared.status.Status.TheVariants.{Woken}
use Rattle.call_table.specs.State.{State, with_thread}
use Rattle.call_table.specs.Effects.{with_outcome, by_objects, completed, let_pass, wake_up}

-- the next of some threads is woken
pub wake_up-step : (woken : List WokenThread) (i : ℕ) (d : WokenThread) (threads : List Thread) → i < length woken
    → wake_up (drop (i + 1) woken) (with_status threads (get_or woken i d).thread (Woken (get_or woken i d).mutex)) ≡ wake_up (drop i woken) threads
unfolding wake_up
wake_up-step woken i d threads within = sym (at_drop_more (λ xs. wake_up xs threads) woken i d within)

pub wake_up-end : (woken : List WokenThread) (i : ℕ) (threads : List Thread) → length woken ≤ i → wake_up (drop i woken) threads ≡ threads
unfolding wake_up
wake_up-end woken i threads done = at_drop_all (λ xs. wake_up xs threads) woken i done

-- the next of some threads passes
pub let_pass-step : (value : ℕ) (numbers : List ℕ) (i d : ℕ) (threads : List Thread) → i < length numbers
    → let_pass value (drop (i + 1) numbers) (with_thread threads (get_or numbers i d) (completed (Some value))) ≡ let_pass value (drop i numbers) threads
unfolding let_pass
let_pass-step value numbers i d threads within = sym (at_drop_more (λ xs. let_pass value xs threads) numbers i d within)

pub let_pass-end : (value : ℕ) (numbers : List ℕ) (i : ℕ) (threads : List Thread) → length numbers ≤ i → let_pass value (drop i numbers) threads ≡ threads
unfolding let_pass
let_pass-end value numbers i threads done = at_drop_all (λ xs. let_pass value xs threads) numbers i done

pub by_objects-is : (row : ObjectState → Outcome) (state : State) (outcome : Outcome) → outcome ≡ row state.objects → with_outcome outcome state ≡ by_objects row state
unfolding by_objects
by_objects-is row state outcome is = ap (λ (what : Outcome). with_outcome what state) is
