use Rattle.std.proofs.Common.{◌∙◌, ap, arith}
use Rattle.twins.specs.View.{cells_of}
use Rattle.observed_run.specs.Events.{next_event}
use Rattle.observed_run.specs.declared.actor.Actor.{Actor}
use Rattle.observed_run.proofs.Sliced.{observed_one}
use Rattle.observed_run.proofs.observing.observe_one.Goals as goal

pub returns-clause-observed : goal.returns-clause-observed
returns-clause-observed c =
    let segment = c.args.segment.now in
    let until = c.saturating_add-until.ensures in
    observed_one c.args.actor segment.left segment.quantum c.args.done c.saturating_add-until.result c.args.recorder.now c.tell_if_executed.new.recorder c.args.hart.now (cells_of c.args.view.now) c.in_ok-end.end
    c.run_coded_slice.new.hart (cells_of c.run_coded_slice.new.memory) c.next_event-event.result c.in_ok-end.ensures.ends c.in_ok-end.ensures.further (omega (arith, until)) (λ more. omega (arith, until, more))
    (c.next_event-event.ensures ∙ ap (λ (actor : Actor). next_event actor c.args.hart.now (cells_of c.args.view.now)) c.after.ensures) c.in_ok-tell_if_executed.ensures
