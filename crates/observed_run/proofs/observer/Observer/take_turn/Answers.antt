use Rattle.std.proofs.Common.{◌≡◌, ◌∙◌, None, ap, refl, rules, sym}
use Rattle.std.proofs.lemmas.Result.{err_from_is_err_and}
use Rattle.token.specs.Point.{Point}
use Rattle.token.specs.RunInTurn.{point_of}
use Rattle.runtime.proofs.Needs.{end_at}
use Rattle.observed_run.proofs.Turning.{by_need, no_end}
use Rattle.observed_run.proofs.observer.Observer.take_turn.Goals as goal

pub returns-in-Ended-clause-moved : goal.returns-in-Ended-clause-moved
returns-in-Ended-clause-moved g c = (end_at (point_of c.args.serial.now) _ c.in-Ended.ensures.need, refl)

-- the record failed at a turn of a run that hadn't ended
pub returns-in_err-turn-clause-failed : goal.returns-in_err-turn-clause-failed
returns-in_err-turn-clause-failed g c =
    let given = err_from_is_err_and c.from_residual-in_err-turn.result c.from_residual-in_err-turn.ensures.1 in
    let goes : (point_of c.args.serial.now).ended ≡ None = end_at (point_of c.args.serial.now) c.need-need.result c.need-need.ensures.need ∙ no_end c.need-need.result c.in_default.not-Ended in
    rw given.1 λ is.
    let cut = c.in_err-turn.ensures.failed (sym given.2 ∙ is) in
    (cut.0, ap (λ (point : Point). point.ended) cut.1 ∙ goes)

pub returns-clause-leads : goal.returns-clause-leads
returns-clause-leads g c =
    let point = point_of c.args.serial.now in
    let needed = c.need-need.result in
    let end = c.in_ok-end.end in
    let told = rw (c.as_ref.ensures.value, c.thread_by.ensures) at c.in_ok-turn.ensures.told in
    record {
      leads = λ start events are records.
          by_need start point (point_of c.turn.new.serial) events told.0 c.args.self.now.findings c.execute.new.self.findings c.turn.new.self.findings are records told.2
          needed end (sym c.need-need.ensures.need) c.in_ok-end.ensures.needed c.in_ok-end.ensures.told told.1 (rw c.as_ref.ensures.value at c.in_ok-turn.ensures.moved);
      legal = search rules;
    }
