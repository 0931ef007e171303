use Rattle.std.proofs.Common.{◌≡◌, vec_len}
use Rattle.races.proofs.Paged.{ArePagesRenewed}
use Rattle.races.proofs.pages.Pages.renew.Given as goal

abbrev pub invariant-loop-number : goal.invariant-loop-number
invariant-loop-number l =
    ArePagesRenewed l.fresh.address l.fresh.length l.initial.self.pages.items l.self.pages.items l.initial.number l.number
    × (vec_len l.self.pages ≡ vec_len l.initial.self.pages)
