-- What holds of the threads that wait.
use Rattle.std.specs.Prelude.{◌≡◌, ◌<◌, false, List, [], ◌∷◌}
use Rattle.condvar_barrier.specs.Objects.{is_among}
use Rattle.abi.specs.Limits as limit
use Rattle.condvar_barrier.specs.declared.waiter.Waiter.{Waiter}

-- each is a thread that can be, and none waits twice
unfoldable pub AreApart : List Waiter → Type 0
AreApart [] = Unit {0}
AreApart (waiter ∷ waiters) = (waiter.thread < limit.threads) × (is_among waiter.thread waiters ≡ false) × AreApart waiters
