use Rattle.std.proofs.Common.{◌≡◌, ◌%◌, Some, None, inl, inr, ap, sym, ◌∙◌, arith}
use Rattle.std.specs.Prelude.{slice_index}
use Rattle.std.specs.Arc.{arc_value}
use Rattle.paged_memory.specs.Page.{PageValue}
use Rattle.paged_memory.specs.PageMap.{PageMap, memory_of_pages}
use Rattle.paged_memory.specs.Snapshot as snapshots
use Rattle.paged_memory.specs.declared.snapshot.Snapshot.{Snapshot}
use Rattle.commit.specs.Merge.{changed_byte, change_at}
use Rattle.commit.specs.Patched.{patched}
use Rattle.twins.specs.View as views
use Rattle.commit.proofs.Comparing.{patched-same, bytes-for, change_at-mapped, change_at-unmapped}
use Rattle.commit.proofs.changed_pages.ChangedPages.compare.Goals as goal

pub returns-in_default : goal.returns-in_default
returns-in_default c =
    let base : PageMap = snapshots.pages_of (views.base_of c.args.view.now) in
    let view : PageMap = views.pages_of c.args.view.now in
    let none : base c.args.number ≡ None = ap (λ (snapshot : Snapshot). snapshots.pages_of snapshot c.args.number) (sym c.base.ensures) ∙ sym c.in_default.ensures in
    record {
      added = patched-same c.args.self.now c.args.number (change_at (memory_of_pages base) (memory_of_pages view)) c.requires.below
          (λ address here. change_at-unmapped base view address (inl (ap base (sym here) ∙ none)));
      below = λ place inside. omega (arith, c.requires.below place inside);
    }

pub returns-in_default-find_page : goal.returns-in_default-find_page
returns-in_default-find_page c =
    let base : PageMap = snapshots.pages_of (views.base_of c.args.view.now) in
    let view : PageMap = views.pages_of c.args.view.now in
    let none : view c.args.number ≡ None = sym c.in_default-find_page.ensures in
    record {
      added = patched-same c.args.self.now c.args.number (change_at (memory_of_pages base) (memory_of_pages view)) c.requires.below
          (λ address here. change_at-unmapped base view address (inr (ap view (sym here) ∙ none)));
      below = λ place inside. omega (arith, c.requires.below place inside);
    }

pub returns : goal.returns
returns c =
    let base : PageMap = snapshots.pages_of (views.base_of c.args.view.now) in
    let view : PageMap = views.pages_of c.args.view.now in
    let copy : PageValue = arc_value c.in-Some.copy.now in
    let mine : PageValue = c.in-Some-find_page.mine.now in
    let copied : base c.args.number ≡ Some copy = ap (λ (snapshot : Snapshot). snapshots.pages_of snapshot c.args.number) (sym c.base.ensures) ∙ sym c.in-Some.ensures in
    let made : view c.args.number ≡ Some mine = sym c.in-Some-find_page.ensures in
    record {
      added = λ address. c.in_ok-add.ensures.added address
          ∙ bytes-for c.args.number (λ place. changed_byte (slice_index copy.bytes (place % 4096)) (slice_index mine.bytes (place % 4096)))
          (change_at (memory_of_pages base) (memory_of_pages view)) (patched c.args.self.now)
          (λ place here. sym (change_at-mapped base view place copy mine (ap base (sym here) ∙ copied) (ap view (sym here) ∙ made))) address;
      below = c.in_ok-add.ensures.below;
    }
