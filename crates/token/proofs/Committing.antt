-- A commit changes a thread's row alone of the threads, and can be taken back.
use Rattle.std.proofs.Common.{◌≡◌, ℕ, zero, suc, ◌<◌, Bool, true, false, ◌&&◌, Some, None, List, [], ◌∷◌, length, take, slice_get, refl, ap, sym, subst, arith}
use Rattle.std.specs.List.{list_all}
use Rattle.commit.specs.ByteMap.{ByteMap}
use Rattle.hart.specs.HartState.{HartState}
use Rattle.hart.specs.declared.stop.Stop.{Stop}
use Rattle.thread_table.specs.declared.thread.Thread.{Thread}
use Rattle.call_table.specs.State.{State}
use Rattle.token.specs.Outcome.{is_done}
use Rattle.call_table.specs.CommitAndWake.{committed_bytes, after_wake}
use Rattle.call_table.specs.Effects.{completed}
use Rattle.token.specs.Turns.{after_stop}
use Rattle.token.proofs.Statuses.{after_stop_kept}
use Rattle.call_table.proofs.Committing.{committed_len, length-with_thread}

-- the thread of a turn is there after it
pub run_there : (state : State) (thread : ℕ) (bytes : ByteMap) (hart : HartState) (executed : ℕ) (stop : Stop) → thread < length state.threads
    → thread < length (after_stop (committed_bytes state thread bytes hart executed) thread hart stop).state.threads
run_there state thread bytes hart executed stop below =
    let same = committed_len state thread bytes hart executed in
    let kept = after_stop_kept (suc thread) (committed_bytes state thread bytes hart executed) thread hart stop (λ same. omega arith) in
    let more = kept.grows in
    omega arith

pub wake_there : (state : State) (thread mutex : ℕ) → thread < length state.threads → thread < length (after_wake state thread mutex).threads
wake_there state thread mutex below = let same = length-with_thread state.threads thread (completed None) in omega arith

-- all threads are done, as far as they were looked at
pub not_all_done : (threads : List Thread) (n : ℕ) (row : Thread) → slice_get threads n ≡ Some row → is_done row ≡ false → list_all is_done threads ≡ false
not_all_done [] n row is done = cc
not_all_done (first ∷ threads) zero row is done = let same : first ≡ row = cc in subst (λ one. (is_done one && list_all is_done threads) ≡ false) (sym same) (ap (λ test. test && list_all is_done threads) done)
not_all_done (first ∷ threads) (suc n) row is done = ends (is_done first) (list_all is_done threads) (not_all_done threads n row is done)
  where
    ends : (one rest : Bool) → rest ≡ false → (one && rest) ≡ false
    ends true rest none = none
    ends false rest none = refl

pub more_done : (threads : List Thread) (n : ℕ) (row : Thread) → slice_get threads n ≡ Some row → is_done row ≡ true → list_all is_done (take n threads) ≡ true
    → list_all is_done (take (suc n) threads) ≡ true
more_done [] n row is done before = cc
more_done (first ∷ threads) zero row is done before = let same : first ≡ row = cc in subst (λ one. (is_done one && true) ≡ true) (sym same) (ap (λ test. test && true) done)
more_done (first ∷ threads) (suc n) row is done before = both (is_done first) (list_all is_done (take n threads)) _ before (λ rest. more_done threads n row is done rest)
  where
    both : (one rest more : Bool) → (one && rest) ≡ true → (rest ≡ true → more ≡ true) → (one && more) ≡ true
    both true rest more is next = next is
    both false rest more is next = is
