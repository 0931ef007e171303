-- A commit changes a thread's row alone of the threads, and can be taken back.
use Rattle.std.proofs.Common.{◌≡◌, ℕ, zero, suc, ◌<◌, true, Option, Some, None, List, [], ◌∷◌, length, slice_get, slice_set, unwrap_or, refl, ap, sym, ◌∙◌, arith, length-set, subst}
use Rattle.guest_memory.specs.Memory.{Memory}
use Rattle.commit.specs.ByteMap.{ByteMap}
use Rattle.hart.specs.HartState.{HartState}
use Rattle.ecalls.specs.Request.{call_of}
use Rattle.thread_table.specs.Status.{is_ready}
use Rattle.thread_table.specs.Thread.{blank}
use Rattle.thread_table.specs.declared.thread.Thread.{Thread}
use Rattle.call_table.specs.State.{State, row_of, with_thread, with_thread_by}
use Rattle.call_table.specs.Called.{called, commit_then_call}
use Rattle.call_table.specs.CommitAndWake.{committed_bytes}
use Rattle.call_table.specs.Effects.{effect}
use Rattle.call_table.proofs.Parked.{slice_get-itself}

pub length-with_thread : (threads : List Thread) (n : ℕ) (made : Thread → Thread) → length (with_thread threads n made) ≡ length threads
unfolding with_thread
length-with_thread threads n made = by_place (slice_get threads n)
  where
    by_place : (place : Option Thread) → length (with_thread_by threads n made place) ≡ length threads
    by_place None = refl
    by_place (Some row) = length-set threads n (made row)

set_back : (threads : List Thread) (n : ℕ) (row made : Thread) → slice_get threads n ≡ Some row → slice_set (slice_set threads n made) n row ≡ threads
set_back [] n row made is = cc
set_back (first ∷ threads) zero row made is = let same : first ≡ row = cc in ap (λ one. one ∷ threads) (sym same)
set_back (first ∷ threads) (suc n) row made is = ap (λ rest. first ∷ rest) (set_back threads n row made is)

pub row_there : (threads : List Thread) (n : ℕ) → n < length threads → (row : Thread) × (slice_get threads n ≡ Some row)
row_there [] n below = absurd (omega arith)
row_there (first ∷ threads) zero below = (first, refl)
row_there (first ∷ threads) (suc n) below = row_there threads n (omega arith)

pub with_thread_there : (threads : List Thread) (n : ℕ) (row : Thread) (made : Thread → Thread) → slice_get threads n ≡ Some row → with_thread threads n made ≡ slice_set threads n (made row)
unfolding with_thread
with_thread_there threads n row made is = ap (with_thread_by threads n made) is

-- the row of a thread that is there
pub row_is : (state : State) (n : ℕ) (row : Thread) → slice_get state.threads n ≡ Some row → row_of state n ≡ row
row_is state n row is = ap (λ place. unwrap_or place blank) is

pub committed_row : (state : State) (thread : ℕ) (bytes : ByteMap) (hart : HartState) (executed : ℕ) → thread < length state.threads
    → row_of (committed_bytes state thread bytes hart executed) thread ≡ record (row_of state thread) { hart = hart; executed = executed }
unfolding committed_bytes
committed_row state thread bytes hart executed below =
    let found = row_there state.threads thread below in
    let made : Thread → Thread = λ row. record row { hart = hart; executed = executed } in
    ap (λ threads. unwrap_or (slice_get threads thread) blank) (with_thread_there state.threads thread found.0 made found.1)
    ∙ ap (λ place. unwrap_or place blank) (slice_get-itself state.threads thread (made found.0) found.0 found.1)
    ∙ ap made (sym (row_is state thread found.0 found.1))

pub committed_len : (state : State) (thread : ℕ) (bytes : ByteMap) (hart : HartState) (executed : ℕ)
    → length (committed_bytes state thread bytes hart executed).threads ≡ length state.threads
unfolding committed_bytes
committed_len state thread bytes hart executed = length-with_thread state.threads thread (λ row. record row { hart = hart; executed = executed })

-- a commit taken back
pub taken_back : (state : State) (thread : ℕ) (bytes : ByteMap) (hart : HartState) (executed : ℕ) (memory : Memory) (row : Thread)
    → slice_get state.threads thread ≡ Some row → memory ≡ state.memory
    → record (committed_bytes state thread bytes hart executed) { memory = memory; threads = slice_set (committed_bytes state thread bytes hart executed).threads thread row } ≡ state
unfolding committed_bytes
taken_back state thread bytes hart executed memory row is same =
    let made : Thread → Thread = λ row. record row { hart = hart; executed = executed } in
    let threads : slice_set (with_thread state.threads thread made) thread row ≡ state.threads =
    ap (λ rows. slice_set rows thread row) (with_thread_there state.threads thread row made is) ∙ set_back state.threads thread row (made row) is in
    let first : record state { memory = memory; threads = slice_set (with_thread state.threads thread made) thread row } ≡ record state { memory = state.memory; threads = slice_set (with_thread state.threads thread made) thread row } =
    ap (λ (cells : Memory). record state { memory = cells; threads = slice_set (with_thread state.threads thread made) thread row }) same in
    first ∙ ap (λ (rows : List Thread). record state { threads = rows }) threads

-- the thread is there after the commit, and ready
pub there_after : (after state : State) (thread : ℕ) (bytes : ByteMap) (hart : HartState) (executed : ℕ) → thread < length state.threads
    → after ≡ committed_bytes state thread bytes hart executed → thread < length after.threads
there_after after state thread bytes hart executed below is =
    subst (λ (after : State). thread < length after.threads) (sym is) (subst (λ n. thread < n) (sym (committed_len state thread bytes hart executed)) below)

pub ready_after : (after state : State) (thread : ℕ) (bytes : ByteMap) (hart : HartState) (executed : ℕ) → thread < length state.threads
    → is_ready (row_of state thread).status ≡ true → after ≡ committed_bytes state thread bytes hart executed → is_ready (row_of after thread).status ≡ true
ready_after after state thread bytes hart executed below ready is =
    ap (λ (after : State). is_ready (row_of after thread).status) is ∙ ap (λ row. is_ready row.status) (committed_row state thread bytes hart executed below) ∙ ready

-- what the call comes to, from the state after the commit
pub committed_effect : (after : State) (state : State) (thread : ℕ) (bytes : ByteMap) (hart : HartState) (executed : ℕ) → thread < length state.threads
    → after ≡ committed_bytes state thread bytes hart executed → called after thread ≡ commit_then_call state thread bytes hart executed
committed_effect after state thread bytes hart executed below is =
    ap (λ (after : State). called after thread) is
    ∙ ap (λ (row : Thread). effect (committed_bytes state thread bytes hart executed) thread (call_of row.hart)) (committed_row state thread bytes hart executed below)

-- the hart of a thread after its commit
pub committed_hart : (after state : State) (thread : ℕ) (bytes : ByteMap) (hart : HartState) (executed : ℕ) → thread < length state.threads
    → after ≡ committed_bytes state thread bytes hart executed → (row_of after thread).hart ≡ hart
committed_hart after state thread bytes hart executed below is =
    ap (λ (after : State). (row_of after thread).hart) is ∙ ap (λ (row : Thread). row.hart) (committed_row state thread bytes hart executed below)
