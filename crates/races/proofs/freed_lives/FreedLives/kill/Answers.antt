use Rattle.std.proofs.Common.{◌≤◌, ◌<◌, arith, refl}
use Rattle.std.proofs.lemmas.Result.{on_ok_weaker}
use Rattle.races.proofs.FreedTold.{adds_killed, live_killed}
use Rattle.races.proofs.freed_lives.FreedLives.kill.Goals as goal

pub returns : goal.returns
returns c =
    let old = c.args.self.now in
    let live = c.forget.new.self in
    let first = c.first_word.ensures in
    let end = c.end_word.ensures in
    on_ok_weaker c.kill.result
    (λ kills. adds_killed old (record old { parts = c.kill.new.self; live = live }) c.args.block kills refl
    (live_killed old.live.slots.items live.slots.items old.parts.parts c.kill.new.self.parts c.args.block kills c.forget.ensures.rest
    (λ other late early. c.forget.ensures.gone other (omega arith) (omega arith))))
    c.kill.ensures
