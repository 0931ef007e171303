-- In what a phase that a number shuffles differs from the same phase without the number.
use Rattle.std.specs.Prelude.{◌≡◌, ◌⊎◌, ℕ, ◌<◌, Option, Some, None, List}
use Rattle.runtime.specs.Answer.{HasAnswer}
use Rattle.shuffled_phases.specs.Phases as phases
use Rattle.thread_table.specs.declared.thread.Thread.{Thread}
use Rattle.token.specs.History.{History, IsNextPhase, first_version, phase_of, version}
use Rattle.token.specs.Legal.{IsLegal}
use Rattle.token.specs.Setup.{Setup}
use Rattle.small_schedules.specs.declared.phase_difference.PhaseDifference.{PhaseDifference}

-- the threads when a phase begins
abbrev pub threads_at : Setup → History → (phase : ℕ) → List Thread
threads_at setup history phase = (version setup history (first_version history phase)).threads

-- the list of a phase that begins with these threads, and the list that it has without a number
pub record AreListsOf (setup : Setup) (difference : PhaseDifference) (threads : List Thread) : Type 0 where
  pub drawn : difference.drawn.items ≡ phases.list_of setup.shuffle difference.phase threads
  pub plain : difference.plain.items ≡ phases.list_of None difference.phase threads

-- A legal history is in the phase, and the lists are those of each one that is.
pub record DiffersAt (setup : Setup) (at : ℕ) (difference : PhaseDifference) : Type 0 where
  pub phase : difference.phase ≡ at
  pub some : (history : History) × IsLegal setup history × IsNextPhase setup history at
  pub every : (history : History) → IsLegal setup history → IsNextPhase setup history at → AreListsOf setup difference (threads_at setup history at)

-- in what the last phase differs that is shuffled, or none if none is or if the run ends before it
abbrev pub IsDifference : Setup → (last : ℕ) → Option PhaseDifference → Type 0
IsDifference setup last (Some difference) = DiffersAt setup last difference
IsDifference setup last None = (last ≡ 0) ⊎ HasAnswer setup (λ history. phase_of history < last)
