use Rattle.std.specs.Prelude.{ℕ, Bool, false, ◌==◌, ◌&&◌, if◌then◌else◌, Option, Some, None}
use Rattle.abi.specs.Calls.{joined_in}
use Rattle.abi.specs.declared.call.Call.{Call}
use Rattle.ecalls.specs.Request.{call_of}
use Rattle.hart.specs.HartState.{HartState, started_registers}
use Rattle.thread_table.specs.Status.{is_blocked}
use Rattle.thread_table.specs.declared.status.Status.TheVariants.{Ready}
use Rattle.thread_table.specs.declared.thread.Thread.{Thread}

-- a thread just made
abbrev pub started : HartState → Thread
started hart = record { status = Ready; hart = hart; executed = 0 }

-- a thread just made, of a hart whose registers and pc are 0
abbrev pub blank : Thread
blank = started (record { registers = started_registers 0 0 0; pc = 0 })

-- whether the end that is waited for is thread n's
abbrev pub is_end_of : ℕ → Option ℕ → Bool
is_end_of n None = false
is_end_of n (Some thread) = thread == n

-- whether a call is a join of thread n
abbrev pub is_join_of : ℕ → Call → Bool
is_join_of n call = is_end_of n (joined_in call)

-- whether a thread waits for thread n's end: it is blocked, and its hart's call is join of n
unfoldable pub is_joiner_of : ℕ → Thread → Bool
is_joiner_of n thread = is_blocked thread.status && is_join_of n (call_of thread.hart)

-- the thread after thread n's end: ready where it waits for it, else as it was
unfoldable pub let_go : ℕ → Thread → Thread
let_go n thread = if is_joiner_of n thread then record thread { status = Ready } else thread
