use Rattle.std.proofs.Common.{◌+◌, arith}
use Rattle.races.proofs.Parted.{cut_at}
use Rattle.races.proofs.freed_parts.FreedParts.revive.Goals as goal

pub returns : goal.returns
returns c =
    let start = c.from-start.ensures in
    let long = c.from.ensures in
    cut_at c.cut.result c.args.self.now.parts c.cut.new.self.parts c.from-start.result (c.from-start.result + c.from.result) c.args.address (c.args.address + c.args.length) start (omega arith) c.cut.ensures
