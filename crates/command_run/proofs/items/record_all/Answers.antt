use Rattle.std.proofs.Common.{◌≢◌, ◌∙◌, ◌++◌, ◌∷◌, [], length, subst, sym, get_or-set_other, arith}
use Rattle.std.proofs.lemmas.List.Elements.{All-from_all_within, AllWithin-more_set, AllWithin-upto}
use Rattle.token.specs.Change.{change_by}
use Rattle.command_run.specs.Recording.{IsReadyFor, IsTold}
use Rattle.command_run.proofs.Telling.{same_wanted}
use Rattle.command_run.proofs.items.record_all.Goals as goal

pub loop-item-preserved : goal.loop-item-preserved
loop-item-preserved g c =
    let items = c.loop-item.items in
    let i = c.loop-item.item-index in
    let d = c.item-item.result in
    let as_before = c.loop-item.invariant.rest i d (omega arith) in record {
      same = same_wanted items i c.record.new.self d (omega arith) c.args.items.now c.record.ensures.wanted c.loop-item.invariant.same;
      told = λ addresses turns changes ready told.
          AllWithin-more_set items i c.record.new.self (omega arith)
          (λ item. IsTold g.O.Write.contents (turns ++ c.args.turn ∷ []) (changes ++ change_by c.args.turn addresses ∷ []) item.recording)
          (c.loop-item.invariant.told addresses turns changes ready told)
          (c.record.ensures.told addresses turns changes
          (subst (λ item. IsReadyFor addresses item.recording) (sym as_before) (ready i d (omega arith)))
          (subst (λ item. IsTold g.O.Write.contents turns changes item.recording) (sym as_before) (told i d (omega arith))));
      rest = λ k other above.
          let apart : k ≢ i = omega arith in
          get_or-set_other items i k c.record.new.self other apart ∙ c.loop-item.invariant.rest k other (omega arith);
    }

pub returns-clause-told : goal.returns-clause-told
returns-clause-told g c = λ addresses turns changes ready told.
    All-from_all_within (λ item. IsTold g.O.Write.contents (turns ++ c.args.turn ∷ []) (changes ++ change_by c.args.turn addresses ∷ []) item.recording) c.loop-item.items
    (AllWithin-upto (λ item. IsTold g.O.Write.contents (turns ++ c.args.turn ∷ []) (changes ++ change_by c.args.turn addresses ∷ []) item.recording) c.loop-item.items 0 c.loop-item.item-index (length c.loop-item.items) (omega arith) (c.loop-item.invariant.told addresses turns changes ready told))
