use Rattle.std.proofs.Common.{◌≡◌, List, option_map}
use Rattle.std.specs.List.{AllWithin}
use Rattle.command_run.specs.Recording.{AreTold, IsReadyFor, wanted_by}
use Rattle.token.specs.Change.{Change, addresses_by}
use Rattle.token.specs.declared.turn.Turn.{Turn}
use Rattle.command_run.proofs.items.prepare_all.Given as goal

-- those so far are prepared, and nothing more was recorded
abbrev pub invariant-loop-item : goal.invariant-loop-item
invariant-loop-item g l = record {
  same : wanted_by l.items ≡ wanted_by l.fn.items;
  ready : AllWithin (λ item. IsReadyFor (addresses_by (option_map (λ patch. patch.now) l.patch)) item.recording) l.items 0 l.item-index;
  kept : (turns : List Turn) (changes : List Change) → AreTold g.O.Write.contents l.fn.items turns changes → AreTold g.O.Write.contents l.items turns changes;
}
