use Rattle.std.proofs.Common.{◌≡◌, ◌<◌, ℕ, Option, Some, arith, length, refl, sym, subst}
use Rattle.std.specs.Prelude.{slice_get}
use Rattle.std.proofs.lemmas.Option.{slice_get_read}
use Rattle.std.proofs.lemmas.Result.{on_ok_weaker}
use Rattle.races.specs.Clocks.{time, time_by, IsJoined}
use Rattle.races.specs.declared.clock.Clock.{Clock}
use Rattle.races.proofs.thread_clocks.ThreadClocks.add.Goals as goal

pub returns : goal.returns
returns c =
    let clocks = c.args.self.now.clocks in
    let full = c.args.self.now.full in
    let long = clocks.ok.0 in
    let key = c.from.ensures in
    let small = c.ranges.thread.fits in
    let inside : c.from.result < length clocks.items = omega arith in
    let found : slice_get clocks.items c.from.result ≡ Some c.index.result.now = slice_get_read clocks.items (length clocks.items) c.from.result c.index.result.now refl inside c.index.ensures in
    let there : slice_get clocks.items c.args.thread ≡ Some c.index.result.now = subst (λ (n : ℕ). slice_get clocks.items n ≡ Some c.index.result.now) key found in
    on_ok_weaker c.join.result (λ joined. subst (λ (clock : Option Clock). IsJoined (time c.args.past.now) (time c.join.new.self) (time_by clock)) (sym there) joined) c.join.ensures
