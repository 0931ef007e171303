use Rattle.std.proofs.lemmas.Result.{on_ok_weaker}
use Rattle.races.proofs.Parted.{IsPut, apart_either, put, shortened, shrunk_apart, split_apart, split_held}
use Rattle.races.proofs.freed_parts.FreedParts.split.Goals as goal

pub invariant_of-self-in-Some : goal.invariant_of-self-in-Some
invariant_of-self-in-Some c =
    let old = c.args.self.now.parts in
    let mid = c.insert.new.self in
    let new = c.insert-in-Some.new.self in
    let start = c.in-Some.start in
    let part = c.in-Some.part in
    let at = c.args.at in
    let apart = c.args.self.now.apart in
    let shrunk : IsPut old start (shortened part at) mid = put old start (shortened part at) mid c.in_ok-insert-in-Some.ensures.updates.0 in
    record {
      apart = apart_either c.insert-in-Some.result mid new
          (on_ok_weaker c.insert-in-Some.result
          (λ updates. split_apart old mid new start at part apart c.in-Some.ensures.0 c.in-Some.ensures.1 c.if-at-part.true shrunk (put mid at part new updates.0))
          c.insert-in-Some.ensures.updates)
          c.insert-in-Some.ensures.err (shrunk_apart old mid start at part apart c.in-Some.ensures.0 c.in-Some.ensures.1 c.if-at-part.true shrunk);
    }

pub returns-in_ok-insert-in-Some-2-clause-held : goal.returns-in_ok-insert-in-Some-2-clause-held
returns-in_ok-insert-in-Some-2-clause-held c =
    let old = c.args.self.now.parts in
    let mid = c.insert.new.self in
    let new = c.insert-in-Some.new.self in
    let start = c.in-Some.start in
    let part = c.in-Some.part in
    let at = c.args.at in
    split_held old mid new start at part c.args.self.now.apart c.in-Some.ensures.0 c.in-Some.ensures.1 c.if-at-part.true
    (put old start (shortened part at) mid c.in_ok-insert-in-Some.ensures.updates.0)
    (put mid at part new c.in_ok-insert-in-Some-2.ensures.updates.0)
