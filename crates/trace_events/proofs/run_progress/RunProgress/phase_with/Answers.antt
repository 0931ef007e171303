use Rattle.std.proofs.Common.{◌≡◌, ◌∙◌, ℕ, ◌+◌, ap, if◌then◌else◌}
use Rattle.trace_events.specs.Times.{keeps_by}
use Rattle.trace_events.specs.declared.phase_counts.PhaseCounts.{PhaseCounts}
use Rattle.trace_events.proofs.More.{counted, phase_more}
use Rattle.trace_events.proofs.run_progress.RunProgress.phase_with.Goals as goal

pub returns : goal.returns
returns c done has =
    let timed = c.args.timed.now in
    let before : PhaseCounts = c.phase_so_far-before.result in
    let more : c.given.result ≡ (if keeps_by (_) timed.turn then 0 else 1) = c.given.ensures ∙ ap (λ (last : _). if keeps_by last timed.turn then 0 else 1) has.last in
    ap (λ (ready : ℕ). counted before.start ready c.in_ok-sum-2.field-0) c.in_ok-sum.ensures
    ∙ ap (λ (pages : ℕ). counted before.start (before.ready + c.given.result) pages) c.in_ok-sum-2.ensures
    ∙ phase_more done timed before c.given.result (c.phase_so_far-before.ensures done has) more
