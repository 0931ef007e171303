use Rattle.std.proofs.Common.{◌≡◌, ◌<◌, ◌∙◌, None, refl, sym}
use Rattle.token.specs.Point.{need_at}
use Rattle.token.specs.declared.need.Need.TheVariants as need
use Rattle.timeline.specs.Halts.{wanted_by}
use Rattle.timeline.specs.Moment.{origin_at}
use Rattle.timeline.specs.Present.{point_at}
use Rattle.timeline.specs.Underway.{halt_in}
use Rattle.timeline.proofs.Passing.{all_looked, all_unasked, at_end, at_trap, at_wake, passed, trap_of}
use Rattle.timeline.proofs.Turning.{further, wakes, went}
use Rattle.timeline.proofs.present.Present.progress.Goals as goal

pub returns-then-asks_within-clause-progress : goal.returns-then-asks_within-clause-progress
returns-then-asks_within-clause-progress c =
    let turns = rw c.in-Some.is at c.requires.ready.sound.turns in
    went c.args.self.now c.in-Some.underway _ c.args.most c.go_looking.result c.in-Some.is turns c.go_looking.ensures.further

pub returns-then-asks_within-clause-passed : goal.returns-then-asks_within-clause-passed
returns-then-asks_within-clause-passed c =
    let turns = rw c.in-Some.is at c.requires.ready.sound.turns in
    let wanted = wanted_by c.args.stops.now in
    passed wanted c.args.self.now c.in-Some.underway _ c.args.most c.go_looking.result c.in-Some.is turns c.requires.call c.go_looking.ensures.further
    (all_looked wanted c.in-Some.underway _ c.go_looking.result c.go_looking.ensures.looked)

pub returns-else-asks_within-clause-progress : goal.returns-else-asks_within-clause-progress
returns-else-asks_within-clause-progress c =
    let turns = rw c.in-Some.is at c.requires.ready.sound.turns in
    let below : c.in-Some.underway.done < c.args.most = rw c.in-Some.is at c.requires.further in
    went c.args.self.now c.in-Some.underway _ c.args.most c.go_on.result c.in-Some.is turns (further c.in-Some.underway _ c.args.most c.go_on.result below c.go_on.ensures)

pub returns-else-asks_within-clause-passed : goal.returns-else-asks_within-clause-passed
returns-else-asks_within-clause-passed c =
    let turns = rw c.in-Some.is at c.requires.ready.sound.turns in
    let below : c.in-Some.underway.done < c.args.most = rw c.in-Some.is at c.requires.further in
    let wanted = wanted_by c.args.stops.now in
    passed wanted c.args.self.now c.in-Some.underway _ c.args.most c.go_on.result c.in-Some.is turns c.requires.call
    (further c.in-Some.underway _ c.args.most c.go_on.result below c.go_on.ensures)
    (all_unasked wanted c.in-Some.underway _ c.args.most c.go_on.result (sym c.asks_within.ensures ∙ c.if-asks_within.false) c.go_on.ensures)

pub returns-in_default-clause-progress : goal.returns-in_default-clause-progress
returns-in_default-clause-progress c =
    let none : origin_at (point_at c.args.self.now) ≡ None = rw c.in-None.is at c.requires.ready.begun in
    wakes c.args.self.now c.args.most c.in-None.is none c.requires.further (λ outcome ended. c.in_default.not-Ended outcome (cc))

pub returns-in_default-clause-passed : goal.returns-in_default-clause-passed
returns-in_default-clause-passed c =
    let none : origin_at (point_at c.args.self.now) ≡ None = rw c.in-None.is at c.requires.ready.begun in
    at_wake (wanted_by c.args.stops.now) c.args.self.now none (λ outcome ended. c.in_default.not-Ended outcome (cc))

pub returns-in-Ended-clause-passed : goal.returns-in-Ended-clause-passed
returns-in-Ended-clause-passed c =
    let none : origin_at (point_at c.args.self.now) ≡ None = rw c.in-None.is at c.requires.ready.begun in
    let ended : need_at (point_at c.args.self.now) ≡ need.Ended c.in-Ended.field-0 = cc in
    at_end (wanted_by c.args.stops.now) c.args.self.now c.in-Ended.field-0 none ended

pub returns-then-is_some-clause-passed : goal.returns-then-is_some-clause-passed
returns-then-is_some-clause-passed c =
    let underway = c.in-Some.underway in
    let turns = rw c.in-Some.is at c.requires.ready.sound.turns in
    let wanted = wanted_by c.args.stops.now in
    let trap = trap_of underway.trap (sym c.is_some.ensures ∙ c.if-is_some.true) in
    rw c.halt_at_trap.ensures (at_trap wanted c.args.self.now underway (halt_in wanted underway) trap.0 c.in-Some.is turns refl trap.1)
