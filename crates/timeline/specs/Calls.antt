-- The watch events of calls: what a `read` stores, and what the commit of a turn joins.
use Rattle.std.specs.Prelude.{ℕ, zero, suc, ◌+◌, ◌^◌, ◌==◌, ◌&&◌, ◌||◌, Bool, true, false, not, nat_lt, min, if◌then◌else◌, Option, Some, None, option_map, option_and_then, List}
use Rattle.std.specs.List.{list_any}
use Rattle.abi.specs.Calls.{touched_in}
use Rattle.abi.specs.declared.call.Call.{Call}
use Rattle.abi.specs.declared.touched.Touched.{Touched}
use Rattle.abi.specs.declared.touched.Touched.TheVariants.{Nothing, Loads, Stores}
use Rattle.ecalls.specs.Request.{call_of}
use Rattle.guest_memory.specs.Memory.{Memory}
use Rattle.hart.specs.HartState.{register}
use Rattle.hart.specs.declared.memory_access.MemoryAccess.{MemoryAccess}
use Rattle.marked_memory.specs.Marks.{looks_for_stores}
use Rattle.marked_memory.specs.declared.watch.Watch.{Watch}
use Rattle.thread_table.specs.declared.thread.Thread.{Thread}
use Rattle.paged_memory.specs.Snapshot as snapshots
use Rattle.twins.specs.View as views
use Rattle.timeline.specs.Halts.{calls_next, first_place, is_seen}
use Rattle.timeline.specs.Moment.{Moment, Origin, next_moment, origin_at}
use Rattle.timeline.specs.Shown.{Executing, own_at, row_at}
use Rattle.timeline.specs.Present.{point_at}
use Rattle.timeline.specs.declared.halt.Halt.{Halt}
use Rattle.timeline.specs.declared.halt.Halt.TheVariants.{Watched}
use Rattle.timeline.specs.declared.present.Present.{Present}
use Rattle.timeline.specs.declared.present_segment.PresentSegment.{PresentSegment}

-- whether a test holds of a number below this one
unfoldable pub any_below : (ℕ → Bool) → ℕ → Bool
any_below test zero = false
any_below test (suc n) = any_below test n || test n

-- what a `read` stores

-- how many bytes a thread's `read` has stored: x11 says it if x10 says that it was done
abbrev pub count_in : Option Thread → ℕ
count_in None = 0
count_in (Some row) = if register row.hart 10 == 0 then register row.hart 11 else 0

-- the row of a thread after the next step
abbrev pub row_after : Moment → ℕ → Option Thread
row_after moment thread = option_and_then (λ next. row_at next.point thread) (next_moment moment)

-- how many bytes the call of a thread stores that comes next
abbrev pub count_read : Moment → ℕ → ℕ
count_read moment thread = count_in (row_after moment thread)

abbrev pub stored : ℕ → ℕ → MemoryAccess
stored address count = record { address = address; width = count; is_store = true }

-- the store of a call of which so much is done, if all that it stores at most may touch a watched range
abbrev pub stored_by : List Watch → Touched → ℕ → Option MemoryAccess
stored_by watches Nothing count = None
stored_by watches (Loads address length) count = None
stored_by watches (Stores address length) count = if list_any (is_seen (stored address length)) watches then Some (stored address count) else None

abbrev pub read_by : List Watch → Call → ℕ → Option MemoryAccess
read_by watches call count = stored_by watches (touched_in call) count

-- what a commit joins

-- the memory of a thread at the end of its segment, the one that the segment began with, and the shared one
pub record Joint : Type 0 where
  pub own : Memory
  pub base : Memory
  pub shared : Memory

abbrev pub is_same : Option ℕ → Option ℕ → Bool
is_same None None = true
is_same (Some one) (Some other) = one == other
is_same _ _ = false

-- whether two memories have the same byte at an address, or none
abbrev pub agree : Memory → Memory → ℕ → Bool
agree one other address = is_same (option_map (λ cell. cell.byte) (one address)) (option_map (λ cell. cell.byte) (other address))

-- whether another thread has changed a byte that this one hasn't
abbrev pub is_behind : Joint → ℕ → Bool
is_behind joint address = agree joint.own joint.base address && not (agree joint.own joint.shared address)

-- whether a test holds of one of a range's addresses: at most 4,096 of them are looked at
abbrev pub holds_at : (ℕ → Bool) → ℕ → Bool
holds_at test address = nat_lt address (2 ^ 32) && test address

abbrev pub any_in : (ℕ → Bool) → Watch → Bool
any_in test watch = any_below (λ offset. holds_at test (watch.start + offset)) (min watch.len 4096)

-- whether the thread has changed a byte
abbrev pub has_changed : Joint → ℕ → Bool
has_changed joint address = not (agree joint.own joint.base address)

-- whether the commit makes of a range that the thread has changed something else than the thread has itself
abbrev pub joins : Joint → Watch → Bool
joins joint watch = looks_for_stores watch.kind && any_in (has_changed joint) watch && any_in (is_behind joint) watch

-- the event

abbrev pub is_read_by : Option MemoryAccess → Watch → Bool
is_read_by None watch = false
is_read_by (Some access) watch = is_seen access watch

abbrev pub is_event : Option MemoryAccess → Joint → Watch → Bool
is_event read joint watch = is_read_by read watch || joins joint watch

abbrev pub call_event : List Watch → Option MemoryAccess → Joint → Option Halt
call_event watches read joint = option_map Watched (first_place (is_event read joint) watches)

abbrev pub joint_of : Moment → Origin → Executing → Joint
joint_of moment origin own = record { own = own.memory; base = origin.copy; shared = moment.point.state.memory }

abbrev pub read_at : List Watch → Moment → Executing → Option MemoryAccess
read_at watches moment own = read_by watches (call_of own.hart) (count_read moment own.thread)

abbrev pub call_by : List Watch → Moment → Option Origin → Option Executing → Option Halt
call_by watches moment None own = None
call_by watches moment (Some origin) None = None
call_by watches moment (Some origin) (Some own) =
    if calls_next origin.work.segment.left moment.steps own.hart own.memory then call_event watches (read_at watches moment own) (joint_of moment origin own) else None

-- the watch event of the call that comes next, none if no call does
unfoldable pub call_at : List Watch → Moment → Option Halt
call_at watches moment = call_by watches moment (origin_at moment.point) (own_at moment)

-- the memories of a thread that a run has executed so far
abbrev pub joint_in : Present → PresentSegment → Joint
joint_in present underway = record { own = views.cells_of underway.view; base = snapshots.cells_of underway.base; shared = (point_at present).state.memory }
