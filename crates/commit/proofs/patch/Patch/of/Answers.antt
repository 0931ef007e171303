use Rattle.std.proofs.Common.{◌≡◌, ℕ, List, length, arith}
use Rattle.std.specs.Prelude.{slice_index, Contains}
use Rattle.std.specs.List.Sorted.{IsStrictlyIncreasing}
use Rattle.std.proofs.lemmas.List.Elements.{Contains-get_or}
use Rattle.commit.specs.Patched.{patched}
use Rattle.paged_memory.specs.PageMap.{PageMap, memory_of_pages}
use Rattle.paged_memory.specs.Snapshot as snapshots
use Rattle.twins.specs.View as views
use Rattle.commit.proofs.Comparing.{Compares, Compares-start, Compares-more, Compares-all, changes-are, stands}
use Rattle.commit.proofs.Viewed.{not-dirty, dirty-below}
use Rattle.commit.proofs.patch.Patch.of.Goals as goal

pub loop-number-init : goal.loop-number-init
loop-number-init c = rw c.new-pages.ensures (Compares-start _ _ _)

pub loop-number-preserved : goal.loop-number-preserved
loop-number-preserved c =
    let dirty : List ℕ = c.deref-number-items.result.now in
    let ascending : IsStrictlyIncreasing dirty = rw c.deref-number-items.ensures.value c.in_ok-dirty.ensures.ascending in
    Compares-more (snapshots.pages_of (views.base_of c.args.view.now)) (views.pages_of c.args.view.now) dirty c.loop-number.pages c.compare.new.self
    c.loop-number.number-index c.loop-number.invariant ascending (omega arith) c.in_ok-compare.ensures.added c.in_ok-compare.ensures.below

pub returns : goal.returns
returns c =
    let base : PageMap = snapshots.pages_of (views.base_of c.args.view.now) in
    let view : PageMap = views.pages_of c.args.view.now in
    let dirty : List ℕ = c.deref-number-items.result.now in
    let e : c.loop-number.number-index ≡ length dirty = omega arith in
    let all : Compares base view dirty c.loop-number.pages (length dirty) = rw (← e) c.loop-number.invariant in
    changes-are (memory_of_pages base) (memory_of_pages view) (patched c.loop-number.pages)
    (Compares-all base view dirty c.loop-number.pages all
    (λ number others. not-dirty c.args.view.now number
    (λ stored.
    (let listed : Contains dirty number = rw c.deref-number-items.ensures.value ((c.in_ok-dirty.ensures.exact number).1 stored) in
    let place = stands dirty number listed in
    others place.0 place.1 place.2))))

pub compare-requires : goal.compare-requires
compare-requires c =
    let listed : Contains c.in_ok-dirty.dirty.items (slice_index c.deref-number-items.result.now c.loop-number.number-index) =
    rw (← c.deref-number-items.ensures.value) (Contains-get_or c.deref-number-items.result.now c.loop-number.number-index 0 (omega arith)) in
    record {
      number = dirty-below c.args.view.now (slice_index c.deref-number-items.result.now c.loop-number.number-index) c.args.view.now.twins ((c.in_ok-dirty.ensures.exact _).0 listed);
      below = c.loop-number.invariant.below c.loop-number.number-index (omega arith) (omega arith);
    }
