-- What the numbers of a page's row are counted by, turn after turn.
use Rattle.std.specs.Prelude.{◌≡◌, ℕ, ◌+◌, ◌<◌, ◌≤◌, ◌==◌, Bool, true, false, Option, Some, None, List, [], All, length, slice_index_or}
use Rattle.sharing_report.specs.Changers.{IsChanger, is_among}
use Rattle.sharing_report.specs.Contested.{contested_count, threads_at}
use Rattle.sharing_report.specs.Sharing.{count_of_different, same_spot}
use Rattle.sharing_report.specs.declared.changer.Changer.TheVariants.{Nobody}
use Rattle.sharing_report.specs.declared.clashes.Clashes.{Clashes}
use Rattle.sharing_report.specs.declared.mark.Mark.{Mark}
use Rattle.sharing_report.specs.declared.mark.PhaseAddress.{PhaseAddress}
use Rattle.sharing_report.specs.declared.shared_phases.SharedPhases.{SharedPhases}
use Rattle.sharing_report.specs.declared.thread_set.ThreadSet.{ThreadSet}
use Rattle.sharing_report.specs.declared.turn_count.TurnCount.{TurnCount}

-- the last of some turns, which none of them is after
abbrev pub IsLast : Option ℕ → List ℕ → Type 0
IsLast None turns = turns ≡ []
IsLast (Some last) turns = (is_among turns last ≡ true) × All (λ turn. turn ≤ last) turns

pub record CountsTurns (counted : TurnCount) (turns : List ℕ) : Type 0 where
  pub count : counted.count ≡ count_of_different turns
  pub fits : counted.count ≤ length turns
  pub last : IsLast counted.last turns

-- the set of some threads
pub record IsThreadSet (set : ThreadSet) (threads : List ℕ) : Type 0 where
  pub count : set.count ≡ count_of_different threads
  pub fits : set.count ≤ length threads
  pub members : (thread : ℕ) → thread < 256 → slice_index_or set.has.items thread false ≡ is_among threads thread

-- The phases in which a page was shared, by the marks of threads at phases. No mark is in a phase after the present one.
pub record IsInPhase (shared : SharedPhases) (phase : ℕ) (marks : List (Mark ℕ)) : Type 0 where
  pub phase_is : shared.phase ≡ phase
  pub count : shared.count ≡ contested_count (λ one other. one == other) marks
  pub fits : shared.count ≤ length marks
  pub upto : All (λ mark. mark.place ≤ phase) marks
  pub changer : IsChanger shared.changer (threads_at (λ one other. one == other) marks phase)

-- and the present phase is no later than it must be
pub record CountsShared (shared : SharedPhases) (marks : List (Mark ℕ)) : Type 0 where
  pub present : IsInPhase shared shared.phase marks
  pub least : (bound : ℕ) → All (λ mark. mark.place ≤ bound) marks → shared.phase ≤ bound

-- The clashes at a page, by the marks of threads at phases and addresses. No mark is in a phase after the present one.
pub record IsPhaseOfPage (clashes : Clashes) (page phase : ℕ) (marks : List (Mark PhaseAddress)) : Type 0 where
  pub phase_is : clashes.phase ≡ phase
  pub count : clashes.count ≡ contested_count same_spot marks
  pub fits : clashes.count ≤ length marks
  pub upto : All (λ mark. mark.place.phase ≤ phase) marks
  pub changers : (place : ℕ) → place < 4096 → IsChanger (slice_index_or clashes.changers.items place Nobody) (threads_at same_spot marks (record { phase = phase; address = page + place }))

-- and the present phase is no later than it must be
pub record CountsClashes (clashes : Clashes) (page : ℕ) (marks : List (Mark PhaseAddress)) : Type 0 where
  pub present : IsPhaseOfPage clashes page clashes.phase marks
  pub least : (bound : ℕ) → All (λ mark. mark.place.phase ≤ bound) marks → clashes.phase ≤ bound
