use Rattle.std.proofs.Common.{append_assoc}
use Rattle.trace_events.specs.Events.{flow_end}
use Rattle.trace_events.proofs.event.write_flow_end.Goals as goal

pub returns : goal.returns
unfolding flow_end
returns c = rw (c.in_ok-push_str-4.ensures.bytes, c.in_ok-write_number.ensures, c.in_ok-push_str-3.ensures.bytes, c.in_ok-push_str-2.ensures.bytes, c.in_ok-push_str.ensures.bytes) (simp append_assoc)
