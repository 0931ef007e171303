-- What the recorders of locks have recorded.
use Rattle.std.specs.Prelude.{◌≡◌, ℕ, List, [], ◌∷◌, ◌++◌}
use Rattle.races.specs.LibraryUsers.{user_in, users_in, hints_in}
use Rattle.races.specs.Holding.{held_in}
use Rattle.races.specs.LockOrder.{KnowsCrossings, acquired_in}
use Rattle.races.specs.declared.called_hint.CalledHint.{CalledHint}
use Rattle.races.specs.declared.crossings.Crossings.{Crossings}
use Rattle.races.specs.declared.holding.Holding.{Holding}
use Rattle.races.specs.declared.lock_order.LockOrder.{LockOrder}
use Rattle.races.specs.declared.observed_event.ObservedEvent.{ObservedEvent}

-- what is held, the acquisitions and the faults are those of some hints
pub record KnowsOrder (held : List Holding) (crossings : Crossings) (hints : List CalledHint) : Type 0 where
  pub held_is : held ≡ held_in hints
  pub crossings_are : KnowsCrossings crossings (acquired_in hints)

-- they are those of one hint more than before
abbrev pub OrdersMore : LockOrder → CalledHint → LockOrder → Type 0
OrdersMore old hint new = (hints : List CalledHint) → KnowsOrder old.holdings.held.items old.crossings hints → KnowsOrder new.holdings.held.items new.crossings (hints ++ hint ∷ [])

-- A recorder was told a history.
pub record OrderRecords (recorder : LockOrder) (history : List ObservedEvent) : Type 0 where
  pub users : (thread : ℕ) → user_in recorder.users thread ≡ users_in history thread
  pub order : KnowsOrder recorder.holdings.held.items recorder.crossings (hints_in history)

-- a recorder has recorded one event more than before
abbrev pub OrderRecordsMore : LockOrder → ObservedEvent → LockOrder → Type 0
OrderRecordsMore old event new = (history : List ObservedEvent) → OrderRecords old history → OrderRecords new (history ++ event ∷ [])
