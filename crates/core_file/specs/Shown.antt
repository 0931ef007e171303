-- The threads of a run as a core file shows them.
use Rattle.std.specs.Prelude.{ℕ, ◌+◌, ◌==◌, Bool, false, not, List, ◌++◌, filter, map}
use Rattle.std.specs.List.{enumerate_from}
use Rattle.hart.specs.HartState.{HartState, next_pc, with_pc}
use Rattle.hart.specs.declared.cause.Cause.{Cause}
use Rattle.hart.specs.declared.cause.Cause.TheVariants.{TargetMisaligned, FetchDenied, IllegalInstruction, Breakpoint, LoadMisaligned, LoadDenied, StoreMisaligned, StoreDenied, BoundReached}
use Rattle.thread_table.specs.declared.status.Status.{Status}
use Rattle.thread_table.specs.declared.status.Status.TheVariants.{Ready, Woken, Blocked, Done}
use Rattle.thread_table.specs.declared.thread.Thread.{Thread}
use Rattle.token.specs.declared.outcome.RunOutcome.{RunOutcome}
use Rattle.token.specs.declared.outcome.RunOutcome.TheVariants.{Exit, Finished, Trap, Deadlock}
use Rattle.core_file.specs.declared.core_thread.CoreThread.{CoreThread}

-- the signal that a trap is shown as: SIGBUS, SIGSEGV, SIGILL, SIGTRAP and SIGXCPU (Linux, signal.h)
abbrev pub signal_of : Cause → ℕ
signal_of TargetMisaligned = 7
signal_of LoadMisaligned = 7
signal_of StoreMisaligned = 7
signal_of FetchDenied = 11
signal_of LoadDenied = 11
signal_of StoreDenied = 11
signal_of IllegalInstruction = 4
signal_of Breakpoint = 5
signal_of BoundReached = 24

-- the signal that ended a run, 0 if none did
abbrev pub signal_in : RunOutcome → ℕ
signal_in (Trap thread pc trap) = signal_of trap.cause
signal_in (Exit status) = 0
signal_in (Finished status) = 0
signal_in Deadlock = 0

-- the registers of a thread: if it waits in a call, they are shown as after its ecall
abbrev pub resting : Status → HartState → HartState
resting Ready hart = hart
resting (Woken mutex) hart = with_pc hart (next_pc hart)
resting Blocked hart = with_pc hart (next_pc hart)
resting (Done value) hart = hart

-- a thread of a number: its signal is the run's, as Linux has it in the note of each thread of a process
abbrev pub core_thread : RunOutcome → (number : ℕ) → Thread → CoreThread
core_thread ends number thread = record { pid = number + 1; signal = signal_in ends; hart = resting thread.status thread.hart }

-- all threads of a run, ascending
abbrev pub in_order : RunOutcome → List Thread → List CoreThread
in_order ends threads = map (λ row. core_thread ends row.0 row.1) (enumerate_from 0 threads)

-- whether a thread is the one that trapped
abbrev pub has_trapped : RunOutcome → CoreThread → Bool
has_trapped (Trap thread pc trap) shown = shown.pid == thread + 1
has_trapped (Exit status) shown = false
has_trapped (Finished status) shown = false
has_trapped Deadlock shown = false

-- the thread that trapped, and then the others
abbrev pub core_threads : RunOutcome → List Thread → List CoreThread
core_threads ends threads =
    filter (λ thread. has_trapped ends thread) (in_order ends threads) ++ filter (λ thread. not (has_trapped ends thread)) (in_order ends threads)
