use Rattle.std.proofs.Common.{◌+◌, arith}
use Rattle.races.specs.Linked.{latest_in}
use Rattle.races.proofs.Kept.{renewed_erased}
use Rattle.races.proofs.Paged.{renewed_all, renewed_more}
use Rattle.races.proofs.page_history.PageHistory.renew.Goals as goal

pub loop-place-preserved : goal.loop-place-preserved
loop-place-preserved c =
    let fresh = c.args.fresh in
    let part = c.loop-place.self.entries.items in
    let new = c.erase.new.self.entries.items in
    let place = c.loop-place.place in
    renewed_more fresh.address fresh.length c.args.base c.args.self.now.entries.items part new c.min-from.result place c.loop-place.auto.place c.erase.ensures.others
    (renewed_erased fresh.address fresh.length (c.args.base + place) c.bytes_of.result (latest_in part place) (latest_in new place) c.bytes_of.ensures c.erase.ensures.own) c.loop-place.invariant

pub returns : goal.returns
returns c =
    let fresh = c.args.fresh in
    renewed_all fresh.address fresh.length c.args.base c.args.self.now.entries.items c.loop-place.self.entries.items c.min-from.result c.min-end.result c.loop-place.place c.loop-place-test.false
    (λ place small where_it byte few renews. let r = renews.0 in let s = renews.1 in absurd (omega arith)) c.loop-place.invariant
