-- What a view changed of its base, merged into that, is what the view has.
use Rattle.std.proofs.Common.{◌≡◌, ◌∙◌, ℕ, ◌%◌, ◌^◌, ◌≤◌, Bool, true, false, Option, Some, None, inl, inr, refl, ap, arith}
use Rattle.std.proofs.lemmas.Bool.{cases_lt, le-ltb}
use Rattle.std.proofs.Math.Path.{fun_ext}
use Rattle.std.proofs.lemmas.Bool.Decides.{nat_tests}
use Rattle.std.specs.Prelude.{◌==◌, if◌then◌else◌, slice_index, option_map, option_and_then, unwrap_or}
use Rattle.std.specs.Option.{option_or}
use Rattle.guest_memory.specs.Layout.{page_of}
use Rattle.guest_memory.specs.Memory.{Cell}
use Rattle.commit.specs.Merge.{change_at, changed_byte, changes, with_bytes, with_changes}
use Rattle.commit.specs.ByteMap.{byte_map}
use Rattle.paged_memory.specs.PageTree as trees
use Rattle.paged_memory.specs.declared.snapshot.Snapshot.{Snapshot}
use Rattle.timeline.proofs.ByteMaps.{get-byte_map}
use Rattle.paged_memory.specs.Page.{PageValue}
use Rattle.paged_memory.specs.PageMap.{memory_of_pages}
use Rattle.paged_memory.specs.Snapshot as snapshots
use Rattle.twins.specs.PrivatePages.{private_at}
use Rattle.twins.specs.Twins.{IsTwin, pages_over}
use Rattle.twins.specs.View as views
use Rattle.twins.specs.declared.view.View.{View}

-- the cell of an address in a page
abbrev cell : ℕ → PageValue → Cell
cell x page = record { perm = page.perm; byte = slice_index page.bytes (x % 4096) }

by_test : (before after : ℕ) (same : Bool) → (before == after) ≡ same → unwrap_or (if same then None else Some after) before ≡ after
by_test before after true is = grind (arith, nat_tests)
by_test before after false is = refl

changed_to : (before after : ℕ) → unwrap_or (changed_byte before after) before ≡ after
changed_to before after = by_test before after (before == after) refl

-- a cell with the change that makes mine of it
abbrev changed_cell : Option Cell → Option Cell → Option Cell
changed_cell copy mine =
    option_map
    (λ here. record { perm = here.perm; byte = unwrap_or (option_and_then (λ before. option_and_then (λ after. changed_byte before.byte after.byte) mine) copy) here.byte })
    copy

same : (x : ℕ) (twin page : Option PageValue) → ((found : PageValue) → page ≡ Some found → IsTwin twin found)
    → changed_cell (option_map (cell x) twin) (option_map (cell x) (option_or page twin)) ≡ option_map (cell x) (option_or page twin)
same x None None twins = refl
same x (Some twin) None twins =
    let byte = slice_index twin.bytes (x % 4096) in
    ap (λ (byte : ℕ). Some (record { perm = twin.perm; byte = byte })) (changed_to byte byte)
same x None (Some page) twins = let kept = (twins page refl).perm_kept in cc
same x (Some twin) (Some page) twins =
    let kept = (twins page refl).perm_kept in
    let perm : twin.perm ≡ page.perm = cc in
    let byte = changed_to (slice_index twin.bytes (x % 4096)) (slice_index page.bytes (x % 4096)) in
    λ i. Some (record { perm = perm i; byte = byte i })

-- no address past the last is mapped
past-unmapped : (snapshot : Snapshot) (address : ℕ) → 2 ^ 32 ≤ address → snapshots.cells_of snapshot address ≡ None
unfolding snapshots.pages_of trees.pages_of memory_of_pages
past-unmapped snapshot address past =
    let above : 2 ^ 20 ≤ page_of address = omega arith in
    rw (le-ltb (page_of address) (2 ^ 20) above) refl

-- a cell with a byte that may have changed
abbrev with_byte : Option ℕ → Cell → Cell
with_byte byte cell = record { perm = cell.perm; byte = unwrap_or byte cell.byte }

-- the changes of a map made of a function, in a snapshot
in_snapshot : (byte_at : ℕ → Option ℕ) (snapshot : Snapshot) → with_changes (byte_map byte_at) (snapshots.cells_of snapshot) ≡ with_bytes byte_at (snapshots.cells_of snapshot)
unfolding with_bytes
in_snapshot byte_at snapshot = fun_ext (λ address.
    elim (cases_lt address (2 ^ 32)) [
      | inl inside ↦ ap (λ byte. option_map (with_byte byte) (snapshots.cells_of snapshot address)) (get-byte_map byte_at address inside)
      | inr past ↦ rw (past-unmapped snapshot address past) refl
    ])

by_cell : (view : View) → with_bytes (change_at (snapshots.cells_of (views.base_of view)) (views.cells_of view)) (snapshots.cells_of (views.base_of view)) ≡ views.cells_of view
unfolding with_bytes change_at memory_of_pages pages_over
by_cell view =
    fun_ext
    (λ x. same x (snapshots.pages_of (views.base_of view) (page_of x)) (private_at (views.private_of view) (page_of x)) (view.twins (page_of x)))

-- the changes of a view's base, in the base
pub merged : (view : View) → with_changes (changes (snapshots.cells_of (views.base_of view)) (views.cells_of view)) (snapshots.cells_of (views.base_of view)) ≡ views.cells_of view
unfolding changes
merged view = in_snapshot (change_at (snapshots.cells_of (views.base_of view)) (views.cells_of view)) (views.base_of view) ∙ by_cell view
