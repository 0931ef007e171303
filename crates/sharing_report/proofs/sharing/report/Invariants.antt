use Rattle.std.proofs.Common.{◌≡◌, map, take}
use Rattle.sharing_report.specs.Sharing.{row_of}
use Rattle.sharing_report.proofs.sharing.report.Given as goal

abbrev pub invariant-loop-page : goal.invariant-loop-page
invariant-loop-page l = l.rows.items ≡ map (row_of l.changes) (take l.page-index l.page-items)
