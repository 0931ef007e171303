-- What a recorder of misuse has recorded.
use Rattle.std.specs.Prelude.{◌≡◌, ℕ, List, [], ◌∷◌, ◌++◌}
use Rattle.races.specs.LibraryUsers.{user_in, users_in, hints_in}
use Rattle.races.specs.Holding.{held_in}
use Rattle.races.specs.Misuses.{misuses_in}
use Rattle.races.specs.declared.misuse_recorder.MisuseRecorder.{MisuseRecorder}
use Rattle.races.specs.declared.observed_event.ObservedEvent.{ObservedEvent}

-- A recorder was told a history.
pub record MisuseRecords (recorder : MisuseRecorder) (history : List ObservedEvent) : Type 0 where
  pub users : (thread : ℕ) → user_in recorder.users thread ≡ users_in history thread
  pub held : recorder.holdings.held.items ≡ held_in (hints_in history)
  pub misuses : recorder.misuses.items ≡ misuses_in (hints_in history)

-- a recorder has recorded one event more than before
abbrev pub MisuseRecordsMore : MisuseRecorder → ObservedEvent → MisuseRecorder → Type 0
MisuseRecordsMore old event new = (history : List ObservedEvent) → MisuseRecords old history → MisuseRecords new (history ++ event ∷ [])
