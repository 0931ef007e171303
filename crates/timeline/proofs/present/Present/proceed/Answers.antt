use Rattle.std.proofs.Common.{◌≡◌, ◌+◌, arith, rules}
use Rattle.timeline.specs.Halts.{wanted_by}
use Rattle.timeline.specs.Present.{count_of, point_at}
use Rattle.timeline.proofs.Walking.{stays, turns}
use Rattle.timeline.proofs.Turning.{turned_begins}
use Rattle.timeline.proofs.present.Present.proceed.Goals as goal

pub returns-in_ok-turn-in-Ok-Over-clause-proceeds : goal.returns-in_ok-turn-in-Ok-Over-clause-proceeds
returns-in_ok-turn-in-Ok-Over-clause-proceeds c =
    let ok = c.in_ok-turn-in-Ok-Over.ensures.ok in
    let ends = rw c.in-Ok-Over.field-0-is at c.in-Ok-Over.ensures.progress in
    record {
      stays = record {
        sound = c.turn.ensures.sound;
        begins = λ start begins.
            turned_begins start c.args.self.now c.progress-progress.new.self c.turn.new.self _ c.in-Ok-Over.end _ c.progress-progress.ensures.turn c.as_ref.ensures.value ends ok.0 ok.1 begins;
      };
      step = search rules;
      refused = tt;
    }

pub returns-in-Ok-Stays-clause-walked : goal.returns-in-Ok-Stays-clause-walked
returns-in-Ok-Stays-clause-walked c =
    let passed = rw c.in-Ok-Stays.field-0-is at c.in-Ok-Stays.ensures.passed in
    stays (wanted_by c.args.stops.now) c.args.self.now c.progress-progress.new.self c.progress-progress.ensures.turn.before passed

pub returns-in-Ok-Halts-clause-walked : goal.returns-in-Ok-Halts-clause-walked
returns-in-Ok-Halts-clause-walked c =
    let passed = rw c.in-Ok-Halts.field-0-is at c.in-Ok-Halts.ensures.passed in
    let serial = c.progress-progress.ensures.turn.serial in
    let point : point_at c.progress-progress.new.self ≡ point_at c.args.self.now = cc in
    (stays (wanted_by c.args.stops.now) c.args.self.now c.progress-progress.new.self c.progress-progress.ensures.turn.before passed.0, point, passed.1)

pub returns-in_ok-turn-in-Ok-Over-clause-walked : goal.returns-in_ok-turn-in-Ok-Over-clause-walked
returns-in_ok-turn-in-Ok-Over-clause-walked c =
    let passed = rw c.in-Ok-Over.field-0-is at c.in-Ok-Over.ensures.passed in
    let ok = c.in_ok-turn-in-Ok-Over.ensures.ok in
    let counted = rw c.as_ref.ensures.value at ok.1 in
    let before : c.turn.new.self.before ≡ c.args.self.now.before + count_of c.in-Ok-Over.end = omega (arith, counted, c.progress-progress.ensures.turn.before) in
    turns (wanted_by c.args.stops.now) c.args.self.now c.turn.new.self (count_of c.in-Ok-Over.end) c.turn.ensures.underway before passed
