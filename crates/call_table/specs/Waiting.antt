-- What holds of the threads that wait at objects.
use Rattle.std.specs.Prelude.{Bool, false, not, ◌&&◌, Option, Some, None, is_some, List, slice_get}
use Rattle.std.specs.List.{list_all}
use Rattle.abi.specs.Calls.{joined_in}
use Rattle.abi.specs.declared.call.Call.{Call}
use Rattle.ecalls.specs.Request.{call_of}
use Rattle.thread_table.specs.Status.{is_blocked}
use Rattle.thread_table.specs.declared.thread.Thread.{Thread}
use Rattle.condvar_barrier.specs.declared.waiter.Waiter.{Waiter}

-- whether a call is a join
abbrev pub is_join : Call → Bool
is_join call = is_some (joined_in call)

-- whether a thread is blocked, and not at a join
abbrev pub waits_at_object : Thread → Bool
waits_at_object thread = is_blocked thread.status && not (is_join (call_of thread.hart))

abbrev pub is_parked : Option Thread → Bool
is_parked None = false
is_parked (Some thread) = waits_at_object thread

-- whether who waits at an object is a thread that is blocked, and not at a join
unfoldable pub are_parked : List Thread → List Waiter → Bool
are_parked threads waiters = list_all (λ waiter. is_parked (slice_get threads waiter.thread)) waiters
