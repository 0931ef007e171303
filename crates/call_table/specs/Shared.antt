-- The state of a run as the code keeps it.
use Rattle.std.specs.Prelude.{ℕ, List}
use Rattle.call_table.specs.State.{State}
use Rattle.call_table.specs.StateInCall.{state_in}
use Rattle.call_table.specs.declared.shared_state.SharedState.{SharedState}

-- the state that stands
unfoldable pub state_of : SharedState → State
state_of shared = state_in shared.inner

-- the whole input
unfoldable pub input_of : SharedState → List ℕ
input_of shared = shared.inner.input.items
