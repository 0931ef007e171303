-- What each thread shows at a position: its registers, and the memory that it sees.
use Rattle.std.specs.Prelude.{ℕ, ◌==◌, ◌&&◌, Bool, false, not, if◌then◌else◌, Option, Some, None, option_map, option_and_then, drop, slice_get}
use Rattle.std.specs.List.{list_any}
use Rattle.guest_memory.specs.Memory.{Memory}
use Rattle.hart.specs.HartState.{HartState, next_pc, with_pc}
use Rattle.thread_table.specs.Status.{is_ready}
use Rattle.thread_table.specs.declared.status.Status.{Status}
use Rattle.thread_table.specs.declared.status.Status.TheVariants.{Ready, Woken, Blocked, Done}
use Rattle.thread_table.specs.declared.thread.Thread.{Thread}
use Rattle.token.specs.Point.{Point, need_at}
use Rattle.token.specs.declared.need.Need.{Need}
use Rattle.token.specs.declared.need.Need.TheVariants as need
use Rattle.timeline.specs.Moment.{Moment, Origin, state_in, origin_at}
use Rattle.timeline.specs.declared.shown.Sees.{Sees}
use Rattle.timeline.specs.declared.shown.Sees.TheVariants.{Own, PhaseStart, Shared}

-- the row of a thread, none if it isn't created
abbrev pub row_at : Point → ℕ → Option Thread
row_at point thread = slice_get point.state.threads thread

-- the thread that executes its turn, its registers and its memory
pub record Executing : Type 0 where
  pub thread : ℕ
  pub hart : HartState
  pub memory : Memory

abbrev pub own_by : Option Origin → ℕ → Option Executing
own_by origin steps =
    option_and_then (λ origin. option_map (λ state. record { thread = origin.work.thread; hart = state.0; memory = state.1 }) (state_in origin steps)) origin

unfoldable pub own_at : Moment → Option Executing
own_at moment = own_by (origin_at moment.point) moment.steps

abbrev pub is_own : Option Executing → ℕ → Bool
is_own None thread = false
is_own (Some own) thread = own.thread == thread

-- the registers of a thread that isn't executing its turn: if it waits in a call they are shown as after its ecall
abbrev pub resting : Status → HartState → HartState
resting Ready hart = hart
resting (Woken mutex) hart = with_pc hart (next_pc hart)
resting Blocked hart = with_pc hart (next_pc hart)
resting (Done value) hart = hart

abbrev pub hart_by : Option Executing → ℕ → Thread → HartState
hart_by None thread row = resting row.status row.hart
hart_by (Some own) thread row = if own.thread == thread then own.hart else resting row.status row.hart

-- the registers of a thread, none if it isn't created
unfoldable pub hart_shown : Moment → ℕ → Option HartState
hart_shown moment thread = option_map (hart_by (own_at moment) thread) (row_at moment.point thread)

-- whether the next turn is another thread's
abbrev pub is_anothers : Need → ℕ → Bool
is_anothers (need.Segment work) thread = not (work.thread == thread)
is_anothers (need.Keeper work) thread = not (work.thread == thread)
is_anothers (need.Wake woken) thread = not (woken == thread)
is_anothers (need.Ended outcome) thread = false

abbrev pub is_ready_row : Option Thread → Bool
is_ready_row None = false
is_ready_row (Some row) = is_ready row.status

-- whether a thread is ready and its turn in the phase is to come: it is of the phase's list, and wasn't given the token
unfoldable pub is_to_come : Point → ℕ → Bool
is_to_come point thread =
    is_ready_row (row_at point thread) && is_anothers (need_at point) thread && list_any (λ listed. listed == thread) (drop point.given point.list)

-- which memory a thread sees
unfoldable pub sees_at : Moment → ℕ → Sees
sees_at moment thread = if is_own (own_at moment) thread then Own else (if is_to_come moment.point thread then PhaseStart else Shared)

abbrev pub memory_by : Moment → Sees → Option Memory
memory_by moment Own = option_map (λ own. own.memory) (own_at moment)
memory_by moment PhaseStart = Some moment.point.base
memory_by moment Shared = Some moment.point.state.memory

-- the byte that a thread sees at an address, none if it isn't mapped
unfoldable pub byte_shown : Moment → ℕ → ℕ → Option ℕ
byte_shown moment thread address =
    option_and_then (λ memory. option_map (λ cell. cell.byte) (memory address)) (memory_by moment (sees_at moment thread))
