use Rattle.std.proofs.Common.{◌+◌, ◌-◌, ◌^◌, ◌<◌, ◌++◌, ℕ, List, length, take}
use Rattle.sharing_report.specs.ByteChanges.{bytes_by}
use Rattle.sharing_report.specs.Pages.{AreOfPage, AreUpTo, Knows}
use Rattle.sharing_report.specs.declared.byte_change.ByteChange.{ByteChange}
use Rattle.sharing_report.proofs.page_state.PageState.note_all.Given as goal

abbrev pub invariant-loop-address : goal.invariant-loop-address
invariant-loop-address l =
    (page : ℕ) (bytes : List ByteChange) → Knows l.initial.self page bytes → AreUpTo l.turn l.phase bytes → AreOfPage page l.addresses → length bytes + length l.addresses < 2 ^ 64 - 1
    → Knows l.self page (bytes ++ bytes_by l.turn l.phase l.thread (take l.address-index l.addresses))
