-- A view keeps the code of its base.
use Rattle.std.proofs.Common.{◌≡◌, ◌∙◌, ℕ, ◌%◌, true, false, Option, Some, None, List, refl, sym, ap}
use Rattle.std.specs.Prelude.{slice_index, option_map}
use Rattle.std.specs.Option.{option_or}
use Rattle.guest_memory.specs.Layout.{page_of}
use Rattle.guest_memory.specs.Memory.{Cell}
use Rattle.decoded_code.specs.Closed.{IsClosed, Kept}
use Rattle.paged_memory.specs.Page.{PageValue}
use Rattle.paged_memory.specs.PageMap.{PageMap, memory_of_pages}
use Rattle.twins.specs.PrivatePages.{private_at}
use Rattle.twins.specs.Twins.{IsTwin, HaveTwins, pages_over}
use Rattle.twins.specs.declared.private_page.PrivatePage.{PrivatePage}

-- the cell of an address in a page
abbrev cell : ℕ → PageValue → Cell
cell x page = record { perm = page.perm; byte = slice_index page.bytes (x % 4096) }

-- a page that has a private one over it permits stores
is_open : (twin : Option PageValue) (page : PageValue) (x : ℕ) → IsTwin twin page → IsClosed (option_map (cell x) twin) → ⊥
is_open None page x is closed = cc
is_open (Some twin) page x is closed =
    let perm : twin.perm ≡ page.perm = let kept = is.perm_kept in cc in
    let shut : twin.perm.write ≡ false = cc in
    let both : true ≡ false = sym is.writable ∙ ap (λ perm. perm.write) (sym perm) ∙ shut in cc

same : (twin page : Option PageValue) (x : ℕ) → ((found : PageValue) → page ≡ Some found → IsTwin twin found) → IsClosed (option_map (cell x) twin)
    → option_map (cell x) (option_or page twin) ≡ option_map (cell x) twin
same twin None x twins closed = refl
same twin (Some page) x twins closed = absurd (is_open twin page x (twins page refl) closed)

pub view_keeps : (base : PageMap) (private : List PrivatePage) → HaveTwins base private → Kept (memory_of_pages base) (memory_of_pages (pages_over base private))
unfolding Kept memory_of_pages pages_over
view_keeps base private twins = λ x closed. same (base (page_of x)) (private_at private (page_of x)) x (twins (page_of x)) closed
