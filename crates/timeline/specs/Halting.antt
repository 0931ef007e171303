-- Why a motion halts at a position.
use Rattle.std.specs.Prelude.{◌≡◌, ◌⊎◌, ℕ, ◌+◌, ◌-◌, ◌<◌, ◌≤◌, Bool, false, if◌then◌else◌, Option, Some, None, List, length, option_and_then}
use Rattle.hart.specs.declared.stop.Stop.{Stop}
use Rattle.hart.specs.declared.stop.Stop.TheVariants.{Trap, Ecall, Quantum}
use Rattle.marked_memory.specs.declared.watch.Watch.{Watch}
use Rattle.token.specs.Point.{Point, need_at}
use Rattle.token.specs.declared.need.Need.{Need}
use Rattle.token.specs.declared.need.Need.TheVariants as need
use Rattle.timeline.specs.Calls.{call_at}
use Rattle.timeline.specs.Halts.{Wanted, access_event, address_halt, first_of, forbids, has_more, next_access}
use Rattle.timeline.specs.Moment.{Moment, beginning, moment_at, stop_in, origin_at}
use Rattle.timeline.specs.Present.{count_of, moment_of, point_at, step_of, steps_of}
use Rattle.timeline.specs.Shown.{Executing, own_at}
use Rattle.timeline.specs.declared.halt.Halt.{Halt}
use Rattle.timeline.specs.declared.halt.Halt.TheVariants.{End, GoesOn, NewThread, OtherThread}
use Rattle.timeline.specs.declared.present.Present.{Present}
use Rattle.timeline.specs.declared.present_segment.SegmentOutcome.{SegmentOutcome}
use Rattle.timeline.specs.declared.present_segment.SegmentOutcome.TheVariants.{Stays, Halts, Over}

-- for the address of the next instruction
abbrev pub address_at : Wanted → Option Executing → Option Halt
address_at wanted None = None
address_at wanted (Some own) = address_halt wanted own.thread own.hart.pc

-- for what the next instruction loads or stores
abbrev pub event_at : List Watch → Option Executing → Option Halt
event_at watches None = None
event_at watches (Some own) = access_event watches (next_access own.hart own.memory)

-- whether another thread than the one that may move alone has its turn
abbrev pub moves_other : Option ℕ → Need → Bool
moves_other alone (need.Segment work) = forbids alone work.thread
moves_other alone (need.Keeper work) = forbids alone work.thread
moves_other alone (need.Wake thread) = forbids alone thread
moves_other alone (need.Ended outcome) = false

-- for the threads that are created, or the one whose turn it is
abbrev pub threads_at : Wanted → Point → Option Halt
threads_at wanted point =
    if has_more wanted.known (length point.state.threads) then Some NewThread else (if moves_other wanted.alone (need_at point) then Some OtherThread else None)

-- at the last position
abbrev pub end_by_stop : Option Stop → Option Halt
end_by_stop None = None
end_by_stop (Some (Trap trap)) = Some End
end_by_stop (Some Ecall) = None
end_by_stop (Some Quantum) = None

abbrev pub end_by_need : Need → Option Halt
end_by_need (need.Segment work) = None
end_by_need (need.Keeper work) = None
end_by_need (need.Wake thread) = None
end_by_need (need.Ended outcome) = Some End

unfoldable pub end_at : Moment → Option Halt
end_at moment = first_of (end_by_stop (option_and_then (λ origin. stop_in origin moment.steps) (origin_at moment.point))) (end_by_need (need_at moment.point))

-- what is looked at after the address and the threads: what the call or the instruction stores or loads, the end
abbrev pub step_halt : Wanted → Moment → Option Halt
step_halt wanted moment = first_of (call_at wanted.watches moment) (first_of (event_at wanted.watches (own_at moment)) (end_at moment))

-- What is looked at at a position, in this order: the instruction's address, the threads, what the step stores or loads, the end.
unfoldable pub halts_at : Wanted → Moment → Option Halt
halts_at wanted moment = first_of (address_at wanted (own_at moment)) (first_of (threads_at wanted moment.point) (step_halt wanted moment))

-- where the turn begins after so many steps, so many of its instructions lead on
abbrev pub IsWithin : Point → ℕ → Type 0
IsWithin point steps =
    (start : Point) (before : ℕ) → moment_at start before ≡ Some (beginning point) → moment_at start (before + steps) ≡ Some (record { point = point; steps = steps })

-- It doesn't halt at this position of a turn for the step or the end.
pub record IsPlain (wanted : Wanted) (point : Point) (steps : ℕ) : Type 0 where
  pub within : IsWithin point steps
  pub address : address_at wanted (own_at (record { point = point; steps = steps })) ≡ None
  pub call : call_at wanted.watches (record { point = point; steps = steps }) ≡ None
  pub event : event_at wanted.watches (own_at (record { point = point; steps = steps })) ≡ None
  pub end : end_at (record { point = point; steps = steps }) ≡ None

abbrev pub ArePlain : Wanted → Point → ℕ → ℕ → Type 0
ArePlain wanted point from to = (k : ℕ) → from ≤ k → k < to → IsPlain wanted point k

-- what comes of a turn that is gone on with
abbrev pub IsPassed : Wanted → Present → SegmentOutcome → Present → Type 0
IsPassed wanted old Stays new = ArePlain wanted (point_at old) (steps_of old.underway) (steps_of new.underway)
IsPassed wanted old (Halts halt) new =
    ArePlain wanted (point_at old) (steps_of old.underway) (steps_of new.underway)
    × (first_of (address_at wanted (own_at (moment_of new))) (step_halt wanted (moment_of new)) ≡ Some halt)
IsPassed wanted old (Over end) new = ArePlain wanted (point_at old) (steps_of old.underway) (count_of end)

-- It doesn't halt at this position of a turn.
pub record IsNoHalt (wanted : Wanted) (point : Point) (steps : ℕ) : Type 0 where
  pub within : IsWithin point steps
  pub none : halts_at wanted (record { point = point; steps = steps }) ≡ None

abbrev pub NoneHalts : Wanted → Point → ℕ → ℕ → Type 0
NoneHalts wanted point from to = (k : ℕ) → from ≤ k → k < to → IsNoHalt wanted point k

-- It goes on over positions at which it doesn't halt, to one at which it does, or as far as it was to go.
abbrev pub IsWalked : Wanted → Present → Option Halt → Present → Type 0
IsWalked wanted old None new = NoneHalts wanted (point_at old) (steps_of old.underway) (steps_of old.underway + (step_of new - step_of old))
IsWalked wanted old (Some halt) new =
    NoneHalts wanted (point_at old) (steps_of old.underway) (steps_of old.underway + (step_of new - step_of old))
    × (halts_at wanted (moment_of new) ≡ Some halt)

-- The same of a motion that looks at no threads.
abbrev pub IsPlainWalk : Wanted → Present → Option Halt → Present → Type 0
IsPlainWalk wanted old None new = ArePlain wanted (point_at old) (steps_of old.underway) (steps_of old.underway + (step_of new - step_of old))
IsPlainWalk wanted old (Some halt) new =
    ArePlain wanted (point_at old) (steps_of old.underway) (steps_of old.underway + (step_of new - step_of old)) × (point_at new ≡ point_at old)
    × (first_of (address_at wanted (own_at (moment_of new))) (step_halt wanted (moment_of new)) ≡ Some halt)

-- A motion halts at none of the positions from one step of a run to another.
abbrev pub NoneBetween : Wanted → Point → ℕ → ℕ → Type 0
NoneBetween wanted start from to = (n : ℕ) → from ≤ n → n < to → (moment : Moment) × (moment_at start n ≡ Some moment) × (halts_at wanted moment ≡ None)

-- It halts where it stands, or it has come as far as it was to go.
abbrev pub HaltsThere : Wanted → ℕ → Halt → Present → Type 0
HaltsThere wanted goal halt present =
    ((halt ≡ GoesOn) × (step_of present ≡ goal)) ⊎ ((step_of present < goal) × (halts_at wanted (moment_of present) ≡ Some halt))
