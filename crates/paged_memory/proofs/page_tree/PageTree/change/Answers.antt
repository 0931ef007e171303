use Rattle.std.specs.Prelude.{Result, Ok, Err, OnOk, OnErr}
use Rattle.paged_memory.proofs.PageTrees.{pages_of-changed, pages_of-kept}
use Rattle.paged_memory.proofs.page_tree.PageTree.change.Goals as goal

on-ok : {A E : Type 0} (answer : Result A E) {P Q : Type 0} → (P → Q) → OnOk answer P → OnOk answer Q
on-ok (Ok done) then held = then held
on-ok (Err error) then held = tt

on-err : {A E : Type 0} (answer : Result A E) {P Q : Type 0} → (P → Q) → OnErr answer P → OnErr answer Q
on-err (Ok done) then held = tt
on-err (Err error) then held = then held

pub returns : goal.returns
returns g c = record {
  changed = on-ok c.change.result
      (pages_of-changed c.args.self.now (record { root = c.change.new.entry; alloc = c.args.self.now.alloc }) c.args.number (g.C.Change.makes c.args.change) c.requires)
      c.change.ensures.changed;
  kept = on-err c.change.result (pages_of-kept c.args.self.now (record { root = c.change.new.entry; alloc = c.args.self.now.alloc })) c.change.ensures.kept;
}
