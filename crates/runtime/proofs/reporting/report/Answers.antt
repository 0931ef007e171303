use Rattle.std.proofs.Common.{List, refl, sym, subst}
use Rattle.sharing_report.specs.Sharing.{IsSharing}
use Rattle.token.specs.Change.{Change}
use Rattle.runtime.proofs.OneReport.{report_of}
use Rattle.runtime.proofs.reporting.report.Goals as goal

pub returns-clause-report : goal.returns-clause-report
returns-clause-report c = λ setup ends.
    report_of setup c.args.end c.args.kept _ ends refl refl refl (sym c.into_turns.ensures)
    (subst (λ (changes : List Change). IsSharing changes c.in_ok-sharing.sharing.items) c.changes.ensures c.in_ok-sharing.ensures)
