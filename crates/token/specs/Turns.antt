-- What one turn makes of a state.
use Rattle.std.specs.Prelude.{ℕ, ◌+◌, List, [], ◌∷◌, length}
use Rattle.guest_memory.specs.Memory.{Memory}
use Rattle.hart.specs.HartState.{HartState, register}
use Rattle.hart.specs.declared.stop.Stop.{Stop}
use Rattle.hart.specs.declared.stop.Stop.TheVariants as stopped
use Rattle.ecalls.specs.Request.{call_of}
use Rattle.commit.specs.Merge.{merge}
use Rattle.commit.specs.Changed.{changed}
use Rattle.call_table.specs.CommitAndWake.{after_wake}
use Rattle.call_table.specs.State.{State, with_thread}
use Rattle.call_table.specs.Effects.{Effect, effect, settled}
use Rattle.token.specs.declared.turn.Turn.{Turn}
use Rattle.token.specs.declared.turn.TurnStop.{TurnStop}
use Rattle.token.specs.declared.turn.TurnStop.TheVariants.{Call, Trap, Quantum, Wake}

-- what a thread did on its copy: the hart and the memory at the end of its segment, why that ended, and how many instructions it had
pub record Ran : Type 0 where
  pub hart : HartState
  pub memory : Memory
  pub stop : Stop
  pub count : ℕ

-- a turn of a history: its record, the addresses whose bytes it changed, and the version that it leads to
pub record Step : Type 0 where
  pub turn : Turn
  pub changes : List ℕ
  pub after : State

-- the commit: the bytes that differ from the copy are written back, and the thread has the segment's hart and count
unfoldable pub committed : State → ℕ → Memory → ℕ → Ran → State
committed state thread copy executed ran =
    record state {
      memory = merge state.memory copy ran.memory;
      threads = with_thread state.threads thread (λ row. record row { hart = ran.hart; executed = executed + ran.count });
    }

-- how a turn stopped, and the state that it leaves
pub record Stopped : Type 0 where
  pub stop : TurnStop
  pub state : State

-- after the commit: the effect of the call, or nothing after a trap and after a quantum
unfoldable pub after_stop : State → ℕ → HartState → Stop → Stopped
after_stop state thread hart (stopped.Trap trap) = record { stop = Trap hart.pc trap; state = state }
after_stop state thread hart stopped.Quantum = record { stop = Quantum hart.pc; state = state }
after_stop state thread hart stopped.Ecall =
    let outcome : Effect = effect state thread (call_of hart) in
    record {
      stop = Call (register hart 17) (register hart 10 ∷ register hart 11 ∷ register hart 12 ∷ []) outcome.reply;
      state = settled thread outcome;
    }

-- the turn of a thread that ran on a copy
unfoldable pub run_step : State → ℕ → ℕ → ℕ → Memory → ℕ → Ran → Step
run_step state phase thread base copy executed ran =
    let end : Stopped = after_stop (committed state thread copy executed ran) thread ran.hart ran.stop in
    let addresses : List ℕ = changed copy ran.memory in
    record {
      turn = record { phase = phase; thread = thread; base = base; stop = end.stop; changed = length addresses; ran = ran.count };
      changes = addresses;
      after = end.state;
    }

-- the turn of a woken thread
unfoldable pub wake_step : State → ℕ → ℕ → ℕ → ℕ → Step
wake_step state phase thread base mutex =
    record {
      turn = record { phase = phase; thread = thread; base = base; stop = Wake mutex; changed = 0; ran = 0 };
      changes = [];
      after = after_wake state thread mutex;
    }
