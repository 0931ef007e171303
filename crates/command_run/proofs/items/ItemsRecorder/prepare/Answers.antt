use Rattle.std.proofs.Common.{◌≡◌, length, subst, sym, arith}
use Rattle.std.proofs.lemmas.List.{with_items_is}
use Rattle.command_run.specs.Recording.{AreTold}
use Rattle.command_run.proofs.items.ItemsRecorder.prepare.Goals as goal

pub returns-clause-kept : goal.returns-clause-kept
returns-clause-kept g c = λ turns changes told.
    let length_is : length c.prepare_all.new.items ≡ c.self.inside.items.len = omega arith in
    subst (λ all. AreTold g.O.Write.contents all turns changes) (sym (with_items_is c.self.inside.items c.prepare_all.new.items length_is))
    (c.prepare_all.ensures.kept turns changes
    (subst (λ all. AreTold g.O.Write.contents all turns changes) (sym c.deref_mut.ensures.value) (subst (λ all. AreTold g.O.Write.contents all turns changes) (sym c.self.view_is) told)))
