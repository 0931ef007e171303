use Rattle.std.proofs.Common.{◌≡◌, ◌+◌, ◌-◌, ◌^◌, ◌<◌, ◌++◌, ℕ, List, length}
use Rattle.sharing_report.specs.ByteChanges.{bytes_by}
use Rattle.sharing_report.specs.Pages.{AreKnown, AreUpTo, HasPages}
use Rattle.sharing_report.specs.declared.byte_change.ByteChange.{ByteChange}
use Rattle.sharing_report.proofs.page_states.note_turn.Given as goal

abbrev pub invariant-pages : goal.invariant-pages
invariant-pages l =
    (prefix : List ℕ) × (prefix ++ l.rest ≡ l.addresses)
    × ((bytes : List ByteChange) → AreKnown l.initial.pages bytes → HasPages l.initial.pages l.addresses → AreUpTo l.turn l.phase bytes → length bytes + length l.addresses < 2 ^ 64 - 1
    → AreKnown l.pages (bytes ++ bytes_by l.turn l.phase l.thread prefix) × HasPages l.pages l.addresses)

abbrev pub decreases-pages : goal.decreases-pages
decreases-pages l = length l.rest
