use Rattle.std.proofs.Common.{◌+◌, ◌/◌, subst}
use Rattle.std.proofs.lemmas.Result.{on_ok_weaker}
use Rattle.races.specs.FreedRecording.{AddsLives}
use Rattle.races.specs.Lives.{uses}
use Rattle.races.specs.declared.site.Access.{Access}
use Rattle.races.proofs.FreedTold.{adds_range}
use Rattle.races.proofs.freed_lives.FreedLives.touch_range.Goals as goal

pub returns : goal.returns
returns c =
    let a = c.args.self.now in
    let b = c.touch.new.self in
    let d = c.touch-2.new.self in
    let e = c.touch-3.new.self in
    on_ok_weaker c.touch-3.result
    (λ last. adds_range a b d e c.args.site c.args.address c.args.length
    (subst (λ (access : Access). AddsLives a (uses access) b) c.of_range.ensures c.in_ok-touch.ensures)
    (subst (λ (access : Access). AddsLives b (uses access) d) c.of_range-2.ensures c.in_ok-touch-2.ensures)
    (subst (λ (access : Access). AddsLives d (uses access) e) c.of_range-3.ensures last))
    c.touch-3.ensures
