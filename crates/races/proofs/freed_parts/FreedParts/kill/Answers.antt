use Rattle.std.proofs.Common.{◌≡◌, ◌+◌, ◌<◌, arith, refl}
use Rattle.std.proofs.lemmas.Result.{on_ok_weaker}
use Rattle.races.specs.declared.freed_part.FreedPart.{FreedPart}
use Rattle.races.proofs.Parted.{apart_either, killed_apart, killed_held, put}
use Rattle.races.proofs.freed_parts.FreedParts.kill.Goals as goal

pub invariant_of-self : goal.invariant_of-self
invariant_of-self c =
    let free = c.cut.new.self.parts in
    let block = c.args.block in
    let start = c.from-start.result in
    let end = start + c.from.result in
    let kept : FreedPart = record { end = end; block = block } in
    let long = c.from.ensures in
    record {
      apart = apart_either c.insert.result free c.insert.new.self
          (on_ok_weaker c.insert.result
          (λ updates. killed_apart c.args.self.now.parts free c.insert.new.self block start end kept c.from-start.ensures (omega arith) (omega arith) refl refl c.cut.new.self.apart c.in_ok-cut.ensures
          (put free start kept c.insert.new.self updates.0))
          c.insert.ensures.updates)
          c.insert.ensures.err c.cut.new.self.apart;
    }

pub returns : goal.returns
returns c =
    let free = c.cut.new.self.parts in
    let block = c.args.block in
    let start = c.from-start.result in
    let end = start + c.from.result in
    let kept : FreedPart = record { end = end; block = block } in
    let long = c.from.ensures in
    killed_held c.args.self.now.parts free c.insert.new.self block start end kept c.from-start.ensures (omega arith) (omega arith) refl refl c.cut.new.self.apart c.in_ok-cut.ensures
    (put free start kept c.insert.new.self c.in_ok-insert.ensures.updates.0)
