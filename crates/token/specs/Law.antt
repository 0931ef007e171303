-- The law of one history: determinism, progress, mutual exclusion, and one beginning of each phase.
use Rattle.std.specs.Prelude.{◌≡◌, ◌⊎◌, ℕ, true, Some, None}
use Rattle.condvar_barrier.specs.Objects.{holds_mutex}
use Rattle.token.specs.History.{History, IsPrefix, IsHeldByKeeper, IsNextPhase, first_version, keeper_of, outcome, present, version}
use Rattle.token.specs.Legal.{Follows, IsLegal}
use Rattle.token.specs.Setup.{Setup}
use Rattle.token.specs.Turns.{Step}
use Rattle.token.specs.declared.outcome.RunOutcome.{RunOutcome}

pub record Determinism : Type 0 where
  -- Of two legal histories of one setup one is a prefix of the other.
  pub prefix : (setup : Setup) (one other : History) → IsLegal setup one → IsLegal setup other → IsPrefix one other ⊎ IsPrefix other one
  -- Two complete ones are one history and have one answer: outcome, turns, what each changed, and the last version with its memory
  -- and output.
  pub answer : (setup : Setup) (one other : History) (ends other_ends : RunOutcome) → IsLegal setup one → IsLegal setup other
      → outcome setup one ≡ Some ends → outcome setup other ≡ Some other_ends → (one ≡ other) × (ends ≡ other_ends)

pub record Progress : Type 0 where
  -- A step follows a legal history that has no outcome.
  pub goes_on : (setup : Setup) (history : History) → IsLegal setup history → outcome setup history ≡ None → (step : Step) × Follows setup history step
  -- Nothing follows one that has an outcome.
  pub ends : (setup : Setup) (history : History) (step : Step) (ends : RunOutcome) → IsLegal setup history → outcome setup history ≡ Some ends → Follows setup history step → ⊥

pub record MutualExclusion : Type 0 where
  -- After a legal history that has no outcome, who holds a mutex keeps the token.
  pub holder : (setup : Setup) (history : History) → IsLegal setup history → outcome setup history ≡ None → IsHeldByKeeper (present setup history).objects (keeper_of history)
  -- No turn finds a mutex held by another thread than its own.
  pub none_else : (setup : Setup) (history : History) (step : Step) → IsLegal setup history → Follows setup history step
      → (thread mutex : ℕ) → holds_mutex (present setup history).objects thread mutex ≡ true → thread ≡ step.turn.thread

pub record OneBeginning : Type 0 where
  -- Wherever in a phase two legal histories of one setup end, the phase began with the same version in both.
  pub begins : (setup : Setup) (one other : History) (phase : ℕ) → IsLegal setup one → IsLegal setup other → IsNextPhase setup one phase → IsNextPhase setup other phase
      → version setup one (first_version one phase) ≡ version setup other (first_version other phase)
