use Rattle.std.proofs.Common.{◌≡◌, ◌++◌}
use Rattle.sharing_report.specs.Pages.{rows_of}
use Rattle.sharing_report.proofs.sharing_recorder.SharingRecorder.rows.Given as goal

abbrev pub invariant-loop-page : goal.invariant-loop-page
invariant-loop-page l = l.rows.items ++ rows_of l.page-iterator ≡ rows_of l.self.pages.entries
