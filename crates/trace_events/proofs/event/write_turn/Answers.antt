use Rattle.std.proofs.Common.{append_assoc}
use Rattle.trace_events.specs.Events.{turn_event}
use Rattle.trace_events.proofs.event.write_turn.Goals as goal

pub returns : goal.returns
unfolding turn_event
returns c = rw (c.in_ok-push_str-4.ensures.bytes, c.in_ok-write_stop.ensures, c.in_ok-push_str-3.ensures.bytes, c.in_ok-write_number.ensures, c.in_ok-push_str-2.ensures.bytes, c.in_ok-write_stop_name.ensures, c.in_ok-push_str.ensures.bytes, c.in_ok-write_head.ensures, c.from.ensures) (simp append_assoc)
