use Rattle.std.proofs.Common.{rules, append_assoc}
use Rattle.trace_events.specs.Events.{counter_texts}
use Rattle.trace_events.proofs.event.write_counters.Goals as goal

pub returns : goal.returns
unfolding counter_texts
returns c = search (rules, append_assoc)
