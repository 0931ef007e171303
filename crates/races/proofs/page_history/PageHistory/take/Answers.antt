use Rattle.std.proofs.Common.{◌<◌, ◌/◌, arith, length, refl}
use Rattle.races.specs.declared.block.Block.{Block}
use Rattle.races.proofs.Blocked.{known_taken, own_taken}
use Rattle.races.proofs.page_history.PageHistory.take.Goals as goal

pub invariant_of-self : goal.invariant_of-self
invariant_of-self c =
    let page = c.args.self.now in
    let blocks = page.blocks.items in
    let index = c.args.place / 64 in
    let long = page.blocks.ok.0 in
    let is_len = c.len.ensures in
    let inside : index < length blocks = omega (arith, c.if-index-len.true) in
    let was : Block = c.index_mut.result.now in
    record {
      sized = page.sized;
      linked = page.linked;
      known = known_taken blocks page.entries.items index was c.take.new.self inside c.index_mut.ensures.value c.take.ensures.kept page.known;
    }

pub returns-then-index-len-clause-may : goal.returns-then-index-len-clause-may
returns-then-index-len-clause-may c = λ block of.
    let page = c.args.self.now in
    let index = c.args.place / 64 in
    let long = page.blocks.ok.0 in
    let is_len = c.len.ensures in
    let inside : index < length page.blocks.items = omega (arith, c.if-index-len.true) in
    own_taken page.blocks.items index c.take.new.self c.args.own.now inside (c.take.ensures.own c.args.own.now refl refl) block of
