use Rattle.std.proofs.Common.{◌≡◌, ◌∙◌, ◌++◌, List, ℕ, ap, append_assoc}
use Rattle.std.specs.String.{string_bytes}
use Rattle.trace_events.specs.Events.{events, own_events, phase_events}
use Rattle.trace_events.specs.Recording.{state_at}
use Rattle.trace_events.specs.Threads.{thread_state}
use Rattle.trace_events.specs.declared.thread_state.ThreadState.{ThreadState}
use Rattle.trace_events.specs.declared.timed_turn.TimedTurn.{TimedTurn}
use Rattle.trace_events.proofs.Ok.{where_ok}
use Rattle.trace_events.proofs.run_progress.RunProgress.write.Goals as goal

pub returns : goal.returns
unfolding events
returns c =
    let timed : TimedTurn = c.args.timed.now in
    let found : ThreadState = c.thread_at-state.result in
    where_ok c.write_events.result _ _
    (λ wrote done has.
    let state : found ≡ thread_state done timed.turn.thread =
    c.thread_at-state.ensures ∙ ap (λ (all : List ThreadState). state_at all timed.turn.thread) c.deref.ensures.value ∙ has.threads timed.turn.thread in
    wrote
    ∙ ap (λ (text : List ℕ). text ++ own_events found.last found.due timed) (c.in_ok-write_phase_before.ensures done has)
    ∙ append_assoc (string_bytes c.args.text.now) (phase_events done timed) (own_events found.last found.due timed)
    ∙ ap (λ (one : ThreadState). string_bytes c.args.text.now ++ (phase_events done timed ++ own_events one.last one.due timed)) state)
    c.write_events.ensures
