use Rattle.std.proofs.Common.{append_assoc}
use Rattle.trace_events.specs.Events.{name_event}
use Rattle.trace_events.proofs.event.write_name.Goals as goal

pub returns : goal.returns
unfolding name_event
returns c = rw (c.in_ok-push_str-4.ensures.bytes, c.in_ok-write_number-2.ensures, c.in_ok-push_str-3.ensures.bytes, c.in_ok-write_number.ensures, c.in_ok-push_str-2.ensures.bytes, c.in_ok-push_str.ensures.bytes, c.separator.ensures) (simp append_assoc)
