-- The threads of a run, by their numbers, and what the calls create and join and a thread's end make of them.
use Rattle.std.specs.Prelude.{ℕ, ◌<◌, Bool, Option, Some, None, List, [], ◌∷◌, ◌++◌, ◌==◌, if◌then◌else◌, nat_lt, All, length, map, filter, slice_get, slice_set}
use Rattle.std.specs.List.{enumerate_from}
use Rattle.std.specs.List.Sorted.{IsStrictlyIncreasing}
use Rattle.abi.specs.declared.code.Code.{Code}
use Rattle.abi.specs.declared.code.Code.TheVariants.{Done as Success, NoSuchThread, HoldsLock}
use Rattle.abi.specs.declared.reply.Reply.{Reply}
use Rattle.abi.specs.declared.reply.Reply.TheVariants.{Completed, Waits, Ends}
use Rattle.abi.specs.Limits as limit
use Rattle.hart.specs.HartState.{HartState}
use Rattle.thread_table.specs.Status.{is_ready, has_turn}
use Rattle.thread_table.specs.Thread.{started, is_joiner_of, let_go}
use Rattle.thread_table.specs.declared.status.Status.{Status}
use Rattle.thread_table.specs.declared.status.Status.TheVariants.{Blocked, Done}
use Rattle.thread_table.specs.declared.thread.Thread.{Thread}

-- the numbers of the threads of which a test holds, ascending
unfoldable pub numbers_where : (Thread → Bool) → List Thread → List ℕ
numbers_where test threads = map (λ row. row.0) (filter (λ row. test row.1) (enumerate_from 0 threads))

-- numbers of threads, each below the next
pub record AreNumbersOf (threads : List Thread) (numbers : List ℕ) : Type 0 where
  pub made : All (λ n. n < length threads) numbers
  pub ascending : IsStrictlyIncreasing numbers

-- the ready threads
abbrev pub ready_list : List Thread → List ℕ
ready_list threads = numbers_where (λ thread. is_ready thread.status) threads

-- the threads that have a turn: those that are ready or woken
abbrev pub serial_list : List Thread → List ℕ
serial_list threads = numbers_where (λ thread. has_turn thread.status) threads

-- the threads that wait for thread n's end
abbrev pub joiners : List Thread → ℕ → List ℕ
joiners threads n = numbers_where (is_joiner_of n) threads

-- the threads with this status in place of a thread's own, none where there is no such thread
abbrev pub with_status_of : List Thread → ℕ → Status → Option Thread → List Thread
with_status_of threads n status None = threads
with_status_of threads n status (Some thread) = slice_set threads n (record thread { status = status })

-- the threads with the status of thread n replaced
unfoldable pub with_status : List Thread → ℕ → Status → List Thread
with_status threads n status = with_status_of threads n status (slice_get threads n)

-- the number of the next thread to be made, none where all were made
abbrev pub new_number : List Thread → Option ℕ
new_number threads = if nat_lt (length threads) limit.threads then Some (length threads) else None

-- the threads with one more, which begins with this hart
abbrev pub created : List Thread → HartState → List Thread
created threads hart = threads ++ started hart ∷ []

-- a call that is refused with a code
abbrev pub refused : Code → Reply
refused code = Completed code None

-- join of a thread by its status: its value where it is done, else refused to a caller that holds a mutex, else the caller waits
abbrev pub join_by_status : Status → Bool → Reply
join_by_status (Done value) holds_lock = Completed Success (Some value)
join_by_status _ holds_lock = if holds_lock then refused HoldsLock else Waits

-- join of a thread, none where there is no such thread
abbrev pub join_of : Option Thread → Bool → Reply
join_of None holds_lock = refused NoSuchThread
join_of (Some thread) holds_lock = join_by_status thread.status holds_lock

-- what the call join of n comes to for its caller
unfoldable pub join_reply : List Thread → ℕ → ℕ → Bool → Reply
join_reply threads caller n holds_lock =
    if n == caller then refused NoSuchThread else join_of (slice_get threads n) holds_lock

-- the threads after a call that came to this reply: its caller is blocked where it waits
abbrev pub after_reply : List Thread → ℕ → Reply → List Thread
after_reply threads caller (Completed code value) = threads
after_reply threads caller Waits = with_status threads caller Blocked
after_reply threads caller Ends = threads

-- the threads after the call join of n
abbrev pub joined : List Thread → ℕ → ℕ → Bool → List Thread
joined threads caller n holds_lock = after_reply threads caller (join_reply threads caller n holds_lock)

-- the threads after thread n's end: who waited for it is ready, and it is done with a value
abbrev pub ended : List Thread → ℕ → ℕ → List Thread
ended threads n value = with_status (map (let_go n) threads) n (Done value)
