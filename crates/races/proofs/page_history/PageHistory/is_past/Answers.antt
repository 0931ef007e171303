use Rattle.std.proofs.Common.{◌/◌, ◌<◌, ℕ, arith, length, subst, sym}
use Rattle.races.specs.Blocks.{IsBlockOf, IsKnown}
use Rattle.races.specs.declared.block.Block.{Block}
use Rattle.races.specs.declared.latest.Latest.{Latest}
use Rattle.races.proofs.Linked.{from_latest}
use Rattle.races.proofs.page_history.PageHistory.is_past.Goals as goal

pub returns-then-index-len : goal.returns-then-index-len
returns-then-index-len c is past among apart =
    let page = c.args.self.now in
    let place = c.args.place in
    let blocks = page.blocks.items in
    let long = page.blocks.ok.0 in
    let is_len = c.len.ensures in
    let inside : place / 64 < length blocks = omega (arith, c.if-index-len.true) in
    let block : Block = c.index.result.now in
    let kept = from_latest page.entries.items place past among in
    let of : IsBlockOf blocks kept.entry.place block = subst (λ (n : ℕ). IsBlockOf blocks n block) (sym kept.of) (inside, sym c.index.ensures) in
    c.is_past.ensures is past (subst (λ (one : Latest). IsKnown block one) kept.is (page.known kept.index kept.entry block kept.is_at of)) apart
