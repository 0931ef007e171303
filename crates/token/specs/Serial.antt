-- What holds of a serial state: its turns are a legal history.
use Rattle.std.specs.Prelude.{◌≡◌, ℕ, ◌+◌, ◌<◌, ◌≤◌, Option, None, List, [], ◌++◌, length, drop, take}
use Rattle.abi.specs.Limits as limit
use Rattle.token.specs.Change.{Change}
use Rattle.token.specs.History.{History, IsHeldByKeeper, IsNextPhase, turns_of, changes_of, present, version, first_version, heads, keeper_of, outcome}
use Rattle.token.specs.Legal.{IsLegal, Follows}
use Rattle.token.specs.Point.{Point, IsNeededAt, step_at}
use Rattle.token.specs.RunInTurn.{point_of}
use Rattle.token.specs.Setup.{list_in}
use Rattle.token.specs.declared.run_in_turn.RunInTurn.{RunInTurn}
use Rattle.segment.specs.declared.segment_end.SegmentEnd.{SegmentEnd}
use Rattle.token.specs.declared.turn.Turn.{Turn}

-- A run stands after this history: each part of the point is the history's.
pub record StandsAfter (point : Point) (history : History) : Type 0 where
  pub legal : IsLegal point.setup history
  pub done : length history ≡ point.done
  pub state : present point.setup history ≡ point.state
  pub phase : IsNextPhase point.setup history point.phase
  pub first : first_version history point.phase ≡ point.first
  pub base : (version point.setup history point.first).memory ≡ point.base
  pub base_threads : (version point.setup history point.first).threads ≡ point.base_threads
  pub list : list_in point.setup point.phase point.base_threads ≡ point.list
  pub heads : heads history point.phase ≡ take point.given point.list
  pub keeper : keeper_of history ≡ point.keeper
  pub ended : outcome point.setup history ≡ point.ended

-- What holds of a point after whatever history a run stands.
pub record Invariants (point : Point) : Type 0 where
  pub within : point.given ≤ length point.list
  -- a run that goes on without a keeper has a next thread
  pub next : point.ended ≡ None → point.keeper ≡ None → point.given < length point.list
  -- no turn finds a mutex held by another thread than its own
  pub holders : point.ended ≡ None → IsHeldByKeeper point.state.objects point.keeper
  pub number : point.phase ≤ point.done + 1
  pub bound : point.setup.bound ≤ limit.instructions
  pub fresh : point.fresh_from ≤ length point.state.output

-- There is a legal history after which the run stands.
abbrev pub IsLawful : RunInTurn → Type 0
IsLawful run = (history : History) × StandsAfter (point_of run) history × Invariants (point_of run)

-- There is one, and a recorder has recorded its turns and its changes. What it has recorded is said by a relation.
abbrev pub IsRecorded : {R : Type 0} → (R → List Turn → List Change → Type 0) → R → RunInTurn → Type 0
IsRecorded records recorder run =
    (history : History) × StandsAfter (point_of run) history × Invariants (point_of run) × records recorder (turns_of history) (changes_of history)

-- the same, as it is told
abbrev pub HasRecorded : {R : Type 0} → (R → List Turn → List Change → Type 0) → R → RunInTurn → Type 0
HasRecorded records recorder run =
    (history : History) × StandsAfter (point_of run) history × records recorder (turns_of history) (changes_of history)

-- these are the turns, and the changes, of a legal history after which a run stands
abbrev pub HasTurns : List Turn → RunInTurn → Type 0
HasTurns turns run = (history : History) × StandsAfter (point_of run) history × (turns_of history ≡ turns)

abbrev pub HasChanges : List Change → RunInTurn → Type 0
HasChanges changes run = (history : History) × StandsAfter (point_of run) history × (changes_of history ≡ changes)

-- a run of which no turn is done
abbrev pub IsStart : RunInTurn → Type 0
IsStart run = StandsAfter (point_of run) [] × Invariants (point_of run)

-- the end is what the next turn needs
abbrev pub IsNeeded : RunInTurn → Option SegmentEnd → Type 0
IsNeeded run end = IsNeededAt (point_of run) end

-- the bytes by which the last turn lengthened the output
abbrev pub fresh_at : Point → List ℕ
fresh_at point = drop point.fresh_from point.state.output

-- There is a legal history after which the run stands, and each step made of what the next turn needs follows it.
abbrev pub IsAskedFor : RunInTurn → Type 0
IsAskedFor run =
    (history : History) × StandsAfter (point_of run) history
    × ((end : Option SegmentEnd) → IsNeeded run end → Follows (point_of run).setup history (step_at (point_of run) end))

-- A run is one turn longer than it was, of what it was given, and its output by the fresh bytes.
pub record IsLonger (old new : Point) : Type 0 where
  pub setup : new.setup ≡ old.setup
  pub done : new.done ≡ old.done + 1
  pub output : new.state.output ≡ old.state.output ++ fresh_at new
