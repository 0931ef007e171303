use Rattle.std.proofs.Common.{◌≡◌, ◌∙◌, ap, false, sym}
use Rattle.trace_events.specs.Events.{is_in_phase}
use Rattle.trace_events.specs.Times.{newest, time_by}
use Rattle.trace_events.proofs.More.{new_phase}
use Rattle.trace_events.proofs.run_progress.RunProgress.phase_so_far.Goals as goal

pub returns : goal.returns
returns c done has =
    let new : is_in_phase c.args.phase (newest done) ≡ false = ap (is_in_phase c.args.phase) (sym has.last) ∙ sym c.is_in_phase.ensures ∙ c.if-is_in_phase.false in
    ap (λ (time : _). record { start = time; ready = 0; pages = 0 }) (c.time_of.ensures ∙ ap time_by has.last) ∙ new_phase done c.args.phase new
