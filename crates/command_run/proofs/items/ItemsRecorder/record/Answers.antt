use Rattle.std.proofs.Common.{◌≡◌, ◌++◌, ◌∷◌, [], length, subst, sym, arith}
use Rattle.std.proofs.lemmas.List.{with_items_is}
use Rattle.token.specs.Change.{change_by}
use Rattle.command_run.specs.Recording.{AreReadyFor, AreTold}
use Rattle.command_run.proofs.items.ItemsRecorder.record.Goals as goal

pub returns : goal.returns
returns g c = λ addresses turns changes ready told.
    let length_is : length c.record_all.new.items ≡ c.self.inside.items.len = omega arith in
    subst (λ all. AreTold g.O.Write.contents all (turns ++ c.args.turn ∷ []) (changes ++ change_by c.args.turn addresses ∷ [])) (sym (with_items_is c.self.inside.items c.record_all.new.items length_is))
    (c.record_all.ensures.told addresses turns changes
    (subst (λ all. AreReadyFor all addresses) (sym c.deref_mut.ensures.value) (subst (λ all. AreReadyFor all addresses) (sym c.self.view_is) ready))
    (subst (λ all. AreTold g.O.Write.contents all turns changes) (sym c.deref_mut.ensures.value) (subst (λ all. AreTold g.O.Write.contents all turns changes) (sym c.self.view_is) told)))
