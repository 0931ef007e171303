use Rattle.std.specs.Prelude.{◌≡◌, ℕ, true, Option, Some, List, length, option_map}
use Rattle.std.specs.Option.{option_or}
use Rattle.guest_memory.specs.Layout.{page_size}
use Rattle.paged_memory.specs.Page.{PageValue}
use Rattle.paged_memory.specs.PageMap.{PageMap}
use Rattle.twins.specs.declared.private_page.PrivatePage.{PrivatePage}
use Rattle.twins.specs.PrivatePages.{private_at}

-- A private page permits what its twin permits, the base's page of its number, and this has stores in it. It has all its bytes.
pub record IsTwin (twin : Option PageValue) (page : PageValue) : Type 0 where
  pub perm_kept : option_map (λ page. page.perm) twin ≡ Some page.perm
  pub writable : page.perm.write ≡ true
  pub size : length page.bytes ≡ page_size

-- each private page has a twin in the base
abbrev pub HaveTwins : PageMap → List PrivatePage → Type 0
HaveTwins base private = (number : ℕ) (page : PageValue) → private_at private number ≡ Some page → IsTwin (base number) page

-- the pages of a base with private pages over them
unfoldable pub pages_over : PageMap → List PrivatePage → PageMap
pages_over base private number = option_or (private_at private number) (base number)
