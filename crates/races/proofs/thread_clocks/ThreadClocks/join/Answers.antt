use Rattle.std.proofs.Common.{◌<◌, ℕ, arith, length, set, subst}
use Rattle.std.proofs.lemmas.Result.{on_ok_weaker}
use Rattle.races.specs.Clocks.{time}
use Rattle.races.proofs.Clocked.{IsThreadJoined, list_joined}
use Rattle.races.proofs.thread_clocks.ThreadClocks.join.Goals as goal

pub returns : goal.returns
returns c =
    let clocks = c.args.self.now.clocks in
    let full = c.args.self.now.full in
    let long = clocks.ok.0 in
    let same = c.from.ensures in
    let small = c.ranges.key.fits in
    let inside : c.from.result < length clocks.items = omega arith in
    on_ok_weaker c.join.result
    (λ joined. subst (λ (key : ℕ). IsThreadJoined clocks.items (set clocks.items c.from.result c.join.new.self) key (time c.args.past.now)) same
    (list_joined clocks.items c.from.result c.index_mut.result.now c.join.new.self (time c.args.past.now) inside c.index_mut.ensures.value joined))
    c.join.ensures
