-- What is told of a position: its turn and thread, what the run is about to do there, and how it ends.
use Rattle.std.specs.Prelude.{◌≡◌, ℕ, ◌+◌, ◌-◌, ◌^◌, min, if◌then◌else◌, Option, Some, None, is_some, option_and_then}
use Rattle.hart.specs.declared.stop.Stop.{Stop}
use Rattle.hart.specs.declared.stop.Stop.TheVariants as stopped
use Rattle.hart.specs.declared.trap.Trap.{Trap}
use Rattle.token.specs.Point.{Point, need_at}
use Rattle.token.specs.declared.need.Need.{Need}
use Rattle.token.specs.declared.need.Need.TheVariants as need
use Rattle.token.specs.declared.outcome.RunOutcome.{RunOutcome}
use Rattle.token.specs.declared.outcome.RunOutcome.TheVariants as outcome
use Rattle.timeline.specs.Moment.{Moment, origin_at, stop_in}
use Rattle.timeline.specs.Shown.{Executing, own_at}
use Rattle.timeline.specs.declared.stage.Stage.{Stage}
use Rattle.timeline.specs.declared.stage.Stage.TheVariants.{Segment, Wake, Trap as Trapped, End}
use Rattle.timeline.specs.declared.present_segment.PresentSegment.{PresentSegment}

-- the turn, from 1: one more than were done, of which 2^64 - 1 are counted; at the end of the run the last one
abbrev pub turn_at : Point → ℕ
turn_at point = if is_some point.ended then point.done else min (point.done + 1) (2 ^ 64 - 1)

-- the thread whose turn it is, at the end of the run this one
abbrev pub thread_by : Need → ℕ → ℕ
thread_by (need.Segment work) last = work.thread
thread_by (need.Keeper work) last = work.thread
thread_by (need.Wake thread) last = thread
thread_by (need.Ended outcome) last = last

abbrev pub thread_at : Point → ℕ → ℕ
thread_at point last = thread_by (need_at point) last

-- the trap that was found where the run stands, if its step was tried
abbrev pub trap_found : Option PresentSegment → Option Trap
trap_found None = None
trap_found (Some underway) = underway.trap

-- what stops the turn's segment at a position
abbrev pub stop_there : Moment → Option Stop
stop_there moment = option_and_then (λ origin. stop_in origin moment.steps) (origin_at moment.point)

-- a trap that was found is what stops the segment there
abbrev pub IsTrapThere : Moment → Option Trap → Type 0
IsTrapThere moment None = Unit {0}
IsTrapThere moment (Some trap) = stop_there moment ≡ Some (stopped.Trap trap)

-- the pc of the thread that executes its turn
abbrev pub pc_by : Option Executing → ℕ
pc_by None = 0
pc_by (Some own) = own.hart.pc

-- what the run is about to do, by what its turn needs, or the trap that was found
abbrev pub stage_by : Need → Stage
stage_by (need.Segment work) = Segment
stage_by (need.Keeper work) = Segment
stage_by (need.Wake thread) = Wake
stage_by (need.Ended outcome) = End outcome

abbrev pub stage_at : Moment → Option Trap → Stage
stage_at moment (Some trap) = Trapped (pc_by (own_at moment)) trap
stage_at moment None = stage_by (need_at moment.point)

-- the outcome of a run that has ended
abbrev pub end_in : Stage → Option RunOutcome
end_in Segment = None
end_in Wake = None
end_in (Trapped pc trap) = None
end_in (End outcome) = Some outcome

-- how the run ends at a position, by the trap that was found, or by the turns that were done
abbrev pub outcome_at : Moment → Option Trap → Option RunOutcome
outcome_at moment (Some trap) = Some (outcome.Trap (thread_at moment.point 0) (pc_by (own_at moment)) trap)
outcome_at moment None = moment.point.ended
