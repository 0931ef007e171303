use Rattle.std.proofs.Common.{◌≡◌, Some, List, Option, arith, length, subst, sym}
use Rattle.std.proofs.lemmas.List.{with_items_is}
use Rattle.std.proofs.lemmas.List.Elements.{All-pop}
use Rattle.explored_runs.specs.Runs.{AllSeen, AreSlots, IsPart}
use Rattle.explored_runs.specs.declared.seen_run.SeenRun.{SeenRun}
use Rattle.explored_runs.proofs.drawing.run_batch.Goals as goal

pub put_all-requires : goal.put_all-requires
put_all-requires g c = let range = c.requires.range in omega arith

pub loop-part-preserved : goal.loop-part-preserved
loop-part-preserved g c =
    let inv = c.loop-part.invariant in
    let popped = All-pop (IsPart c.args.image.now c.args.input.now c.args.config.now) _ _ (Some c.in-Some.part) c.in-Some.ensures.items inv.parts in
    let seen : AllSeen c.args.image.now c.args.input.now c.args.config.now c.in_ok-part.field-0.items =
    subst (IsPart c.args.image.now c.args.input.now c.args.config.now) c.in_ok-part.was popped.1 in
    let Are : List (Option SeenRun) → Type 0 = λ slots. AreSlots c.args.image.now c.args.input.now c.args.config.now c.args.batch slots in
    let start : Are c.deref_mut.result.now = subst Are (sym c.deref_mut.ensures.value) inv.slots in
    let length_is : length c.put_all.new.slots ≡ c.loop-part.slots.len = omega arith in
    record {
      len = inv.len;
      slots = subst Are (sym (with_items_is c.loop-part.slots c.put_all.new.slots length_is))
          (c.put_all.ensures c.args.image.now c.args.input.now c.args.config.now seen start);
      parts = popped.0;
    }
