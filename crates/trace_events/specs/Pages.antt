-- Pages of changed bytes.
use Rattle.std.specs.Prelude.{ℕ, ◌+◌, ◌==◌, Bool, false, if◌then◌else◌, Option, Some, None, List, [], ◌∷◌}
use Rattle.guest_memory.specs.Layout.{page_of}

-- whether a page is this one
abbrev pub is_page : Option ℕ → ℕ → Bool
is_page None number = false
is_page (Some page) number = page == number

-- how many pages ascending addresses have behind this page
unfoldable pub pages_after : Option ℕ → List ℕ → ℕ
pages_after page [] = 0
pages_after page (address ∷ addresses) = (if is_page page (page_of address) then 0 else 1) + pages_after (Some (page_of address)) addresses

-- how many pages have one of some ascending addresses
abbrev pub page_count : List ℕ → ℕ
page_count addresses = pages_after None addresses
