use Rattle.std.specs.Prelude.{ℕ}
use Rattle.commit.specs.ByteMap.{ByteMap}
use Rattle.ecalls.specs.Request.{call_of}
use Rattle.hart.specs.HartState.{HartState}
use Rattle.call_table.specs.CommitAndWake.{committed_bytes}
use Rattle.call_table.specs.State.{State, row_of}
use Rattle.call_table.specs.Effects.{Effect, effect}

-- what the call of a thread's hart makes of the state
abbrev pub called : State → ℕ → Effect
called state thread = effect state thread (call_of (row_of state thread).hart)

-- what the call of a thread makes of the state after the commit of some changed bytes
abbrev pub commit_then_call : State → ℕ → ByteMap → HartState → ℕ → Effect
commit_then_call state thread bytes hart executed = effect (committed_bytes state thread bytes hart executed) thread (call_of hart)
