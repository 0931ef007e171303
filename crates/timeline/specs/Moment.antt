-- The positions of a run. A position is a turn and how many instructions of the turn's segment were executed: what stands before the
-- turn is a point, and a step leads from a position to the next one.
use Rattle.std.specs.Prelude.{ℕ, zero, suc, ◌+◌, Option, Some, None, option_map, option_and_then}
use Rattle.guest_memory.specs.Memory.{Memory}
use Rattle.commit.specs.Merge.{changes}
use Rattle.hart.specs.HartState.{HartState}
use Rattle.hart.specs.Segment.{after, counted, stop_after}
use Rattle.hart.specs.declared.stop.Stop.{Stop}
use Rattle.hart.specs.declared.stop.Stop.TheVariants.{Trap, Ecall, Quantum}
use Rattle.token.specs.Point.{Point, moved, need_at, step_at}
use Rattle.token.specs.declared.need.Need.{Need}
use Rattle.token.specs.declared.need.Need.TheVariants as need
use Rattle.token.specs.declared.need.Work.{Work}
use Rattle.segment.specs.declared.segment_end.SegmentEnd.{SegmentEnd}

-- a position: what stands before its turn, and how many instructions of the turn's segment were executed
pub record Moment : Type 0 where
  pub point : Point
  pub steps : ℕ

-- a segment on a copy of a memory
pub record Origin : Type 0 where
  pub work : Work
  pub copy : Memory

-- the segment that a turn needs, none where it needs none
abbrev pub origin_by : Point → Need → Option Origin
origin_by point (need.Segment work) = Some (record { work = work; copy = point.base })
origin_by point (need.Keeper work) = Some (record { work = work; copy = point.state.memory })
origin_by point (need.Wake thread) = None
origin_by point (need.Ended outcome) = None

unfoldable pub origin_at : Point → Option Origin
origin_at point = origin_by point (need_at point)

-- the hart and the memory of a segment after so many steps: so many times the next instruction from its start
abbrev pub state_in : Origin → ℕ → Option (HartState × Memory)
state_in origin steps = after steps origin.work.segment.hart origin.copy

-- what stops a segment after so many steps
abbrev pub stop_in : Origin → ℕ → Option Stop
stop_in origin steps = stop_after origin.work.segment.hart origin.copy origin.work.segment.left origin.work.segment.quantum steps

-- the first position of a turn
abbrev pub beginning : Point → Moment
beginning point = record { point = point; steps = 0 }

-- the position after a turn, with this end of its segment or with none at a wake
abbrev pub turned : Point → Option SegmentEnd → Moment
turned point end = beginning (moved point (step_at point end))

-- the end of a segment that stops so after so many steps
abbrev pub end_by : Memory → Stop → ℕ → HartState × Memory → SegmentEnd
end_by copy stop steps state = record { hart = state.0; stop = stop; count = counted stop steps; patch = changes copy state.1 }

-- the position after a turn whose segment stops so after so many steps
abbrev pub over : Point → Origin → Stop → ℕ → Option Moment
over point origin stop steps = option_map (λ state. turned point (Some (end_by origin.copy stop steps state))) (state_in origin steps)

-- the position after an instruction: the one that uses up the quantum is the last of its turn
abbrev pub executed : Point → Origin → ℕ → Option Stop → Option Moment
executed point origin steps (Some Quantum) = over point origin Quantum steps
executed point origin steps (Some (Trap trap)) = Some (record { point = point; steps = steps })
executed point origin steps (Some Ecall) = Some (record { point = point; steps = steps })
executed point origin steps None = Some (record { point = point; steps = steps })

-- the position after a step in a segment: none follows a trap, and an ecall is the last step of its turn
abbrev pub stepped : Point → Origin → ℕ → Option Stop → Option Moment
stepped point origin steps None = executed point origin (steps + 1) (stop_in origin (steps + 1))
stepped point origin steps (Some Ecall) = over point origin Ecall steps
stepped point origin steps (Some Quantum) = None
stepped point origin steps (Some (Trap trap)) = None

abbrev pub next_in : Point → ℕ → Option Origin → Need → Option Moment
next_in point steps (Some origin) asked = stepped point origin steps (stop_in origin steps)
next_in point steps None (need.Wake thread) = Some (turned point None)
next_in point steps None (need.Segment work) = None
next_in point steps None (need.Keeper work) = None
next_in point steps None (need.Ended outcome) = None

-- the position after a step, none at the last one
unfoldable pub next_moment : Moment → Option Moment
next_moment moment = next_in moment.point moment.steps (origin_at moment.point) (need_at moment.point)

-- The position after so many steps from the first one of a run, none where the run has fewer.
unfoldable pub moment_at : Point → ℕ → Option Moment
moment_at start zero = Some (beginning start)
moment_at start (suc steps) = option_and_then next_moment (moment_at start steps)
