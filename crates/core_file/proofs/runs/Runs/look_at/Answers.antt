use Rattle.std.proofs.Common.{◌≡◌, Option, Some, ap, refl, sym, subst, ◌∙◌, rules}
use Rattle.std.specs.Arc.{arc_value}
use Rattle.paged_memory.specs.Page.{PageValue}
use Rattle.paged_memory.specs.PageMap.{PageMap}
use Rattle.paged_memory.specs.Snapshot.{pages_of}
use Rattle.core_file.specs.Runs.{IsMappedAs}
use Rattle.core_file.specs.declared.run.Run.{Run}
use Rattle.core_file.proofs.Growing.{grown}
use Rattle.core_file.proofs.runs.Runs.look_at.Goals as goal

pub returns : goal.returns
returns c =
    let pages : PageMap = pages_of c.args.memory.now in
    let found = rw c.in-Some.is at c.page.ensures in
    let page : PageValue = c.deref.result.now in
    let same : page ≡ arc_value c.in-Some.page.now = search rules in
    let is : pages c.args.number ≡ Some page = sym found ∙ ap Some (sym same) in
    let next : Run = record { first = c.args.number; count = 1; perm = c.perm.result } in
    let mapped : IsMappedAs c.perm.result (pages c.args.number) =
    subst (λ (found : Option PageValue). IsMappedAs c.perm.result found) (sym is) (sym c.perm.ensures.perm, c.perm.ensures.size) in
    grown pages c.args.number next refl refl mapped c.args.self.now.list.items c.lengthen.new.runs.items c.args.self.now.pages c.requires.below c.in_ok-lengthen.ensures
