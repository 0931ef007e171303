use Rattle.sharing_report.proofs.OneReport.{one-sharing}
use Rattle.sharing_report.proofs.law.one_report.Goals as goal

pub returns : goal.returns
returns c = one-sharing
