-- What a commit and a wake make of the state.
use Rattle.std.specs.Prelude.{ℕ, None}
use Rattle.commit.specs.ByteMap.{ByteMap}
use Rattle.commit.specs.Merge.{with_changes}
use Rattle.condvar_barrier.specs.Rows.{take_back}
use Rattle.hart.specs.HartState.{HartState}
use Rattle.call_table.specs.State.{State, with_thread}
use Rattle.call_table.specs.Effects.{completed}

-- the commit of some changed bytes, where the thread then has this hart and count
unfoldable pub committed_bytes : State → ℕ → ByteMap → HartState → ℕ → State
committed_bytes state thread bytes hart executed =
    record state {
      memory = with_changes bytes state.memory;
      threads = with_thread state.threads thread (λ row. record row { hart = hart; executed = executed });
    }

-- the wake of a thread: it takes the mutex of its wait, and the wait is done
abbrev pub after_wake : State → ℕ → ℕ → State
after_wake state thread mutex =
    record state { objects = take_back state.objects thread mutex; threads = with_thread state.threads thread (completed None) }
