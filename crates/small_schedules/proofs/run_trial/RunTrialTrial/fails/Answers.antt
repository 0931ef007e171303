use Rattle.explored_runs.specs.Runs.{setup_by}
use Rattle.small_schedules.proofs.Ended.{ends_or_not}
use Rattle.small_schedules.proofs.run_trial.RunTrialTrial.fails.Goals as goal

pub returns : goal.returns
returns g c =
    let trial = c.args.self.now in
    ends_or_not (setup_by trial.image.now trial.input.now trial.config.now c.args.shuffle) c.in_ok-end.end trial.outcome c.is_same.result c.in_ok-end.ensures
    c.is_same.ensures.same c.is_same.ensures.other
