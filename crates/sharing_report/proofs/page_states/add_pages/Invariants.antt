use Rattle.std.proofs.Common.{◌≡◌, ◌++◌, ℕ, List, length}
use Rattle.sharing_report.specs.Pages.{HasPages, StayKnown}
use Rattle.sharing_report.proofs.page_states.add_pages.Given as goal

abbrev pub invariant-pages : goal.invariant-pages
invariant-pages l =
    ((prefix : List ℕ) × (prefix ++ l.rest ≡ l.addresses) × HasPages l.pages prefix)
    × StayKnown l.initial.pages l.pages

abbrev pub decreases-pages : goal.decreases-pages
decreases-pages l = length l.rest
