use Rattle.races.proofs.Paged.{ArePartRenewed}
use Rattle.races.proofs.page_history.PageHistory.renew.Given as goal

abbrev pub invariant-loop-place : goal.invariant-loop-place
invariant-loop-place l = ArePartRenewed l.fresh.address l.fresh.length l.base l.initial.self.entries.items l.self.entries.items l.initial.place l.place
