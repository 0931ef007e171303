-- What a segment comes to after some of its instructions.
use Rattle.std.specs.Prelude.{ℕ, Bool, true, false, if◌then◌else◌, Option, Some, None}
use Rattle.guest_memory.specs.Memory.{Memory}
use Rattle.abi.specs.Calls as call
use Rattle.hart.specs.HartState.{HartState, register}
use Rattle.hart.specs.Next.{next}
use Rattle.hart.specs.Segment.{after, stop_at}
use Rattle.hart.specs.declared.stop.Stop.{Stop}
use Rattle.hart.specs.declared.stop.Stop.TheVariants.{Trap, Ecall, Quantum}

-- a segment goes on with a further instruction, it stops and the run goes on, or it stops and ends the run
pub data Verdict : Type 0 where
  GoesOn : Verdict
  Stops : Verdict
  EndsRun : Verdict

-- whether a stop ends the run: a trap does, and the call exit, whose number is in x17
unfoldable pub ends_run : HartState → Stop → Bool
ends_run hart (Trap trap) = true
ends_run hart Ecall = call.ends_run (register hart 17)
ends_run hart Quantum = false

-- what a stop comes to, or none
abbrev pub verdict_of : HartState → Option Stop → Verdict
verdict_of hart None = GoesOn
verdict_of hart (Some stop) = if ends_run hart stop then EndsRun else Stops

-- what a segment comes to that has come to this hart and memory, none where it can't come so far
abbrev pub verdict_in : ℕ → Option ℕ → ℕ → Option (HartState × Memory) → Verdict
verdict_in left quantum steps None = GoesOn
verdict_in left quantum steps (Some state) = verdict_of state.0 (stop_at left quantum steps (next state.0 state.1))

-- What the segment of this hart and memory, with left instructions to execute at most and this quantum, comes to after so many
-- instructions.
unfoldable pub verdict_after : HartState → Memory → ℕ → Option ℕ → ℕ → Verdict
verdict_after hart memory left quantum steps = verdict_in left quantum steps (after steps hart memory)
