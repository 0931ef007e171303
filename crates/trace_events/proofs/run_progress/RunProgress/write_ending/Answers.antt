use Rattle.std.proofs.Common.{append_assoc}
use Rattle.trace_events.specs.Ending.{ending}
use Rattle.trace_events.proofs.More.{states_are}
use Rattle.trace_events.proofs.run_progress.RunProgress.write_ending.Goals as goal

pub returns : goal.returns
unfolding ending
returns c done has =
    let states = states_are c.args.self.now.threads.items done has.in_use has.threads in
    let counters = c.in_ok-write_phase.ensures done has in
    rw (
      c.in_ok-push_str.ensures.bytes,
      c.in_ok-write_rows.ensures,
      c.in_ok-write_totals.ensures,
      c.in_ok-write_unended.ensures,
      counters,
      c.deref.ensures.value,
      c.deref-2.ensures.value,
      states,
      c.time_of.ensures,
      has.last,
      has.instructions,
    ) (simp append_assoc)
