use Rattle.std.proofs.Common.{◌≡◌, ◌^◌, ◌<◌, ◌≤◌, ℕ, false, Option, Some, None, inl, inr, refl, rules, arith}
use Rattle.std.specs.Prelude.{IsTrue, is_some, option_map, nat_lt}
use Rattle.std.specs.Option.{option_or}
use Rattle.std.proofs.lemmas.Bool.{cases_lt, le-ltb}
use Rattle.guest_memory.specs.Layout.{page_of}
use Rattle.guest_memory.specs.declared.perm.Perm.{Perm}
use Rattle.paged_memory.specs.Page.{PageValue}
use Rattle.paged_memory.specs.PageMap.{memory_of_pages}
use Rattle.paged_memory.specs.PageTree as trees
use Rattle.paged_memory.specs.Snapshot as snapshots
use Rattle.paged_memory.specs.declared.snapshot.Snapshot.{Snapshot}
use Rattle.twins.specs.PrivatePages.{private_at}
use Rattle.twins.specs.Twins.{HaveTwins, IsTwin, pages_over}
use Rattle.twins.specs.View as views
use Rattle.twins.specs.declared.view.View.{View}
use Rattle.commit.specs.ByteMap.{byte_map}
use Rattle.commit.specs.Merge.{with_bytes, with_changes}
use Rattle.commit.proofs.Merges.{with_changes-byte_map}

-- a page that wasn't stored to is the base's
pub not-dirty : (view : View) (number : ℕ) → (IsTrue (views.is_dirty view number) → ⊥) →
    views.pages_of view number ≡ snapshots.pages_of (views.base_of view) number
unfolding pages_over
not-dirty view number clean = either (private_at (views.private_of view) number) clean
  where
    either : (private : Option PageValue) → (IsTrue (is_some private) → ⊥) →
        option_or private (snapshots.pages_of (views.base_of view) number) ≡ snapshots.pages_of (views.base_of view) number
    either None clean = refl
    either (Some page) clean = absurd (clean (search rules))

-- the pages of a snapshot have numbers below 2^20
number-mapped : (snapshot : Snapshot) (number : ℕ) (perm : Perm) → option_map (λ (page : PageValue). page.perm) (snapshots.pages_of snapshot number) ≡ Some perm → number < 2 ^ 20
unfolding snapshots.pages_of trees.pages_of
number-mapped snapshot number perm mapped =
    elim (cases_lt number (2 ^ 20)) [
      | inl below ↦ below
      | inr above ↦ (let none : nat_lt number (2 ^ 20) ≡ false = le-ltb number (2 ^ 20) above in let empty = rw none at mapped in cc)
    ]

-- no address past the last is mapped
past-unmapped : (snapshot : Snapshot) (address : ℕ) → 2 ^ 32 ≤ address → snapshots.cells_of snapshot address ≡ None
unfolding snapshots.pages_of trees.pages_of memory_of_pages
past-unmapped snapshot address past =
    let above : 2 ^ 20 ≤ page_of address = omega arith in
    rw (le-ltb (page_of address) (2 ^ 20) above) refl

-- the changes of a map made of a function, in a snapshot
pub with_changes-snapshot : (byte_at : ℕ → Option ℕ) (snapshot : Snapshot) →
    with_changes (byte_map byte_at) (snapshots.cells_of snapshot) ≡ with_bytes byte_at (snapshots.cells_of snapshot)
with_changes-snapshot byte_at snapshot = with_changes-byte_map byte_at (snapshots.cells_of snapshot) (past-unmapped snapshot)

-- a page that was stored to has a number below 2^20
pub dirty-below : (view : View) (number : ℕ) → HaveTwins (snapshots.pages_of (views.base_of view)) (views.private_of view) → IsTrue (views.is_dirty view number) → number < 2 ^ 20
dirty-below view number twins stored = either (private_at (views.private_of view) number) stored (twins number)
  where
    either : (private : Option PageValue) → IsTrue (is_some private) →
        ((page : PageValue) → private ≡ Some page → IsTwin (snapshots.pages_of (views.base_of view) number) page) → number < 2 ^ 20
    either None stored twin = absurd (search rules)
    either (Some page) stored twin = number-mapped (views.base_of view) number page.perm (twin page refl).perm_kept
