-- What the fields of a run say.
use Rattle.std.specs.Prelude.{◌≡◌, ◌+◌, ◌-◌, ◌^◌, ◌<◌, ◌≤◌, Option, Some, None, IsSome, Result, IfOk, OnOk, OnErr, length, slice_index}
use Rattle.std.specs.declared.alloc.AllocError.{AllocError}
use Rattle.abi.specs.Limits as limit
use Rattle.guest_memory.specs.Memory.{Memory}
use Rattle.paged_memory.specs.Snapshot.{cells_of}
use Rattle.paged_memory.specs.declared.snapshot.Snapshot.{Snapshot}
use Rattle.thread_table.specs.declared.status.Status.TheVariants.{Ready, Woken}
use Rattle.call_table.specs.Shared.{state_of, input_of}
use Rattle.call_table.specs.State.{row_of}
use Rattle.token.specs.Due.{thread_due, mutex_due}
use Rattle.token.specs.Point.{Point, base_at, due_at, step_at}
use Rattle.token.specs.Turns.{Step}
use Rattle.token.specs.declared.due.Due.{Due}
use Rattle.segment.specs.declared.segment_end.SegmentEnd.{SegmentEnd}
use Rattle.token.specs.declared.run_in_turn.RunInTurn.{RunInTurn}
use Rattle.token.specs.declared.turn.Turn.{Turn}

-- the base's memory: a snapshot of its own, or the present memory
abbrev pub base_or : Option Snapshot → Memory → Memory
base_or None memory = memory
base_or (Some snapshot) memory = cells_of snapshot

-- where a run stands
unfoldable pub point_of : RunInTurn → Point
point_of run =
    record {
      setup = record { entry = run.entry; memory = cells_of run.first; input = input_of run.shared; bound = run.bound; quantum = run.quantum; shuffle = run.shuffle };
      phase = run.phase.number;
      first = run.phase.first;
      base = base_or run.phase.base (state_of run.shared).memory;
      base_threads = run.phase.threads;
      list = run.phase.list.items;
      given = run.phase.given;
      keeper = run.keeper;
      ended = run.outcome;
      state = state_of run.shared;
      done = run.done;
      fresh_from = run.fresh_from;
    }

-- somebody is due, and is one of the threads, now and in its base
pub record HasDue (point : Point) : Type 0 where
  pub listed : point.keeper ≡ None → point.given < length point.list
  pub now_there : thread_due (due_at point) < length point.state.threads
  pub next_there : point.keeper ≡ None → slice_index point.list point.given < length point.state.threads
  pub base_there : thread_due (due_at point) < length (base_at point (due_at point)).threads

-- This is who is due. It is one of the threads, now and in its base.
pub record IsDue (point : Point) (who : Due) : Type 0 where
  pub there : HasDue point
  pub due : who ≡ due_at point

-- Who is due may end its segment so: it is ready, and executed no more than it may.
pub record CanRun (point : Point) (end : SegmentEnd) : Type 0 where
  pub ready : (row_of point.state (thread_due (due_at point))).status ≡ Ready
  pub within : end.count ≤ point.setup.bound - (row_of (base_at point (due_at point)) (thread_due (due_at point))).executed
  pub bound : point.setup.bound ≤ limit.instructions

-- Who is due may have its turn: a ready one with this end of its segment, and a woken one without.
abbrev pub MayTurn : Point → Option SegmentEnd → Type 0
MayTurn point None = (row_of point.state (thread_due (due_at point))).status ≡ Woken (mutex_due (due_at point))
MayTurn point (Some end) = CanRun point end

-- A run is in the middle of its next turn, which may have this end. Its phase's first memory is kept, and the turn can be counted.
pub record IsAmid (run : RunInTurn) (end : Option SegmentEnd) : Type 0 where
  pub due : HasDue (point_of run)
  pub may : MayTurn (point_of run) end
  pub base : IsSome run.phase.base
  pub done : (point_of run).done + 1 < 2 ^ 64

-- A turn with this end is answered, and its step leads to this point. Where memory runs out the run stands where it stood.
pub record TakesTurn (old : RunInTurn) (end : Option SegmentEnd) (led : Point → Step → Point) (new : RunInTurn) (result : Result Turn AllocError) : Type 0 where
  pub turn : IfOk result (λ turn. turn ≡ (step_at (point_of old) end).turn)
  pub moved : OnOk result (point_of new ≡ led (point_of old) (step_at (point_of old) end))
  pub kept : OnErr result (point_of new ≡ point_of old)
