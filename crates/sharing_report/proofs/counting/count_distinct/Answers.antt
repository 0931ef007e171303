use Rattle.std.proofs.Common.{ap, length, arith}
use Rattle.std.proofs.lemmas.List.Filters.{dedup_is}
use Rattle.sharing_report.proofs.Distinct.{distinct_count-sorted}
use Rattle.sharing_report.proofs.counting.count_distinct.Goals as goal

pub returns : goal.returns
returns g c =
    let kept = dedup_is _ _ _ c.dedup.ensures.filtered in
    let counted = distinct_count-sorted g.met.K.Eq.laws g.met.K.Ord.total g.met.K.Ord.matches_eq c.args.keys.items _ c.sort_unstable.ensures.permutation c.sort_unstable.ensures.sorted in
    omega (arith, ap length kept, counted)
