use Rattle.std.proofs.Common.{take}
use Rattle.sharing_report.specs.Pages.{AreOfPage}
use Rattle.sharing_report.proofs.page_states.same_page.Given as goal

abbrev pub invariant-loop-count : goal.invariant-loop-count
invariant-loop-count l = AreOfPage l.page (take l.count l.addresses)
