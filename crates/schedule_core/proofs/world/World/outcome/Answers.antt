use Rattle.std.proofs.Common.{◌≡◌, ◌∙◌, Some, None, sym, subst}
use Rattle.schedule_core.specs.Histories.{IsOutcome}
use Rattle.schedule_core.specs.Scene.{point_at}
use Rattle.schedule_core.specs.declared.scene.Scene.{Scene}
use Rattle.schedule_core.proofs.Turning.{goes_on, has_ended, outcome_is}
use Rattle.schedule_core.proofs.world.World.outcome.Goals as goal

pub returns-in-Ended-clause-ended : goal.returns-in-Ended-clause-ended
returns-in-Ended-clause-ended c =
    subst (λ (scene : Scene). Some c.in-Ended.outcome ≡ (point_at scene).ended) c.self.view_is
    (sym (has_ended (point_at c.self.inside.scene) c.in-Ended.outcome (sym c.in-Ended.ensures.need)))

pub returns-in-Ended-clause-outcome : goal.returns-in-Ended-clause-outcome
returns-in-Ended-clause-outcome c =
    let asked = c.need.ensures.follows in
    subst (λ (scene : Scene). IsOutcome (point_at scene) (Some c.in-Ended.outcome)) c.self.view_is
    (outcome_is (point_at c.self.inside.scene) asked.0 asked.1 c.one_history.ensures.progress (Some c.in-Ended.outcome)
    (has_ended (point_at c.self.inside.scene) c.in-Ended.outcome (sym c.in-Ended.ensures.need)))

pub returns-in_default : goal.returns-in_default
returns-in_default c =
    let asked = c.need.ensures.follows in
    let going : (point_at c.self.inside.scene).ended ≡ None = goes_on (point_at c.self.inside.scene) (λ outcome is. c.in_default.not-Ended outcome (c.need.ensures.need ∙ is)) in
    record {
      ended = subst (λ (scene : Scene). None ≡ (point_at scene).ended) c.self.view_is (sym going);
      outcome =
          subst (λ (scene : Scene). IsOutcome (point_at scene) None) c.self.view_is
          (outcome_is (point_at c.self.inside.scene) asked.0 asked.1 c.one_history.ensures.progress None going);
    }
