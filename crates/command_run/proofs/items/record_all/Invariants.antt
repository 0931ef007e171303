use Rattle.std.proofs.Common.{◌≡◌, ◌++◌, ◌∷◌, [], ℕ, List}
use Rattle.std.specs.List.{AllWithin, SameFrom}
use Rattle.command_run.specs.Recording.{AreReadyFor, AreTold, IsTold, wanted_by}
use Rattle.token.specs.Change.{Change, change_by}
use Rattle.token.specs.declared.turn.Turn.{Turn}
use Rattle.command_run.proofs.items.record_all.Given as goal

-- those so far were told, and the others are as they were
abbrev pub invariant-loop-item : goal.invariant-loop-item
invariant-loop-item g l = record {
  same : wanted_by l.items ≡ wanted_by l.fn.items;
  told : (addresses : List ℕ) (turns : List Turn) (changes : List Change) → AreReadyFor l.fn.items addresses → AreTold g.O.Write.contents l.fn.items turns changes
      → AllWithin (λ item. IsTold g.O.Write.contents (turns ++ l.turn ∷ []) (changes ++ change_by l.turn addresses ∷ []) item.recording) l.items 0 l.item-index;
  rest : SameFrom l.fn.items l.items l.item-index;
}
