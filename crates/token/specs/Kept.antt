-- What lists of turns and changes have recorded.
use Rattle.std.specs.Prelude.{◌≡◌, ℕ, ◌<◌, List, vec_len}
use Rattle.std.specs.Vec.{vec_capacity}
use Rattle.token.specs.Change.{Change}
use Rattle.token.specs.declared.kept.Kept.{Kept}
use Rattle.token.specs.declared.turn.Turn.{Turn}

unfoldable pub kept_turns : Kept → List Turn
kept_turns kept = kept.turns.items

unfoldable pub kept_changes : Kept → List Change
kept_changes kept = kept.changes.items

-- the lists are these
pub record Keeps (kept : Kept) (turns : List Turn) (changes : List Change) : Type 0 where
  pub turns_are : kept_turns kept ≡ turns
  pub changes_are : kept_changes kept ≡ changes

-- there is room for a turn, and these addresses are at hand
pub record HasRoomFor (kept : Kept) (addresses : List ℕ) : Type 0 where
  pub turns_room : vec_len kept.turns < vec_capacity kept.turns
  pub changes_room : vec_len kept.changes < vec_capacity kept.changes
  pub at_hand : kept.addresses.items ≡ addresses
