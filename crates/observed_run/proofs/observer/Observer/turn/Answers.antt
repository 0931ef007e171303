use Rattle.std.proofs.Common.{◌∙◌, ap, subst, List, ℕ}
use Rattle.std.specs.Prelude.{option_map}
use Rattle.call_table.specs.State.{State}
use Rattle.races.specs.declared.observed_event.ObservedEvent.{ObservedEvent}
use Rattle.token.specs.Point.{Point, step_at}
use Rattle.token.specs.RunInTurn.{point_of}
use Rattle.token.specs.declared.turn.Turn.{Turn}
use Rattle.observed_run.specs.Calls.{blocked_in, let_go}
use Rattle.observed_run.specs.Events.{actor_after}
use Rattle.observed_run.specs.Runs.{actor_of, last_actor}
use Rattle.observed_run.specs.Told.{IsTold}
use Rattle.observed_run.specs.declared.actor.Actor.{Actor}
use Rattle.observed_run.proofs.Turning.{last_is, moved_state}
use Rattle.observed_run.proofs.observer.Observer.turn.Goals as goal

pub returns-clause-told : goal.returns-clause-told
returns-clause-told g c =
    let point = point_of c.args.serial.now in
    let end = option_map (λ end. end.now) c.args.end in
    let step = step_at point end in
    let after = ap (λ (p : Point). p.state.threads) c.in_ok-turn.ensures.moved ∙ ap (λ (s : State). s.threads) (moved_state point step) in
    let held = c.as_slice.ensures.value ∙ c.in_ok-before.ensures.held in
    let goes =
    c.as_slice-2.ensures.value ∙ c.in_ok-passed.ensures ∙ ap (λ (blocked : List ℕ). let_go blocked c.threads.result.now) c.in_ok-before.ensures.blocked
    ∙ ap (let_go (blocked_in point.state.threads)) (c.threads.ensures ∙ after) in
    let acts =
    c.after.ensures ∙ ap (λ (actor : Actor). actor_after actor c.executed_in.result) c.actor_in-actor.ensures ∙ ap (actor_after (actor_of point.done c.args.thread)) c.executed_in.ensures in
    let stops = ap (λ (turn : Turn). turn.stop) c.in_ok-turn.ensures.turn in (
      c.in_ok-events.events.items,
      last_is (last_actor point.done c.args.thread end) c.after.result point c.args.thread end step c.as_slice.result.now c.as_slice-2.result.now c.in_ok-turn.turn.stop c.in_ok-events.events.items
          acts held goes stops c.in_ok-events.ensures,
      subst (λ (events : List ObservedEvent). IsTold c.args.self.now.findings c.tell_all.new.recorder events) c.deref.ensures.value c.in_ok-tell_all.ensures,
    )
