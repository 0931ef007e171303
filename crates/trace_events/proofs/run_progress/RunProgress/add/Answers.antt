use Rattle.std.proofs.Common.{ℕ, ◌+◌, ◌++◌, ◌∙◌, List, Option, ap, length, refl}
use Rattle.std.specs.Prelude.{max}
use Rattle.trace_events.specs.Recording.{state_at}
use Rattle.trace_events.specs.Threads.{above, arrival, state_after, without}
use Rattle.trace_events.specs.Waits.{let_go, release_of}
use Rattle.trace_events.specs.declared.release.Release.{Release}
use Rattle.trace_events.specs.declared.timed_turn.TimedTurn.{TimedTurn}
use Rattle.trace_events.specs.declared.wait.Wait.{Wait}
use Rattle.trace_events.proofs.More.{Knows-more}
use Rattle.trace_events.proofs.run_progress.RunProgress.add.Goals as goal

pub returns : goal.returns
returns c done has =
    let before = c.args.self.now in
    let timed : TimedTurn = c.args.timed in
    let threads : List ℕ = c.in_ok-freed.freed.items in
    Knows-more before _ done timed threads
    (c.in_ok-freed.ensures
    ∙ ap (λ (release : Option Release). let_go release c.deref.result.now) c.of-release.ensures
    ∙ ap (let_go (release_of timed.turn.thread timed.turn.stop)) c.deref.ensures.value)
    refl
    (c.in_ok-self.ensures done has)
    c.in_ok-self-2.ensures
    (c.in_ok-pass_on.ensures
    ∙ ap (λ (all : List ℕ). without all before.waiters.items ++ arrival timed.turn.thread c.of.result) c.deref-3.ensures.value
    ∙ ap (λ (wait : Option Wait). without threads before.waiters.items ++ arrival timed.turn.thread wait) c.of.ensures)
    (c.in_ok-note_turn.ensures.grown ∙ ap (λ (all : List ℕ). max (above (length before.threads.items) all) (timed.turn.thread + 1)) c.deref-2.ensures.value)
    (λ thread. c.in_ok-note_turn.ensures.noted thread ∙ ap (λ (all : List ℕ). state_after all timed thread (state_at before.threads.items thread)) c.deref-2.ensures.value)
    has
