use Rattle.std.proofs.Common.{append_assoc}
use Rattle.trace_events.specs.Events.{segment_slice}
use Rattle.trace_events.proofs.event.write_segment_slice.Goals as goal

pub returns : goal.returns
unfolding segment_slice
returns c = rw (c.in_ok-push_str-6.ensures.bytes, c.in_ok-write_number-5.ensures, c.in_ok-push_str-5.ensures.bytes, c.in_ok-write_number-4.ensures, c.in_ok-push_str-4.ensures.bytes, c.in_ok-write_number-3.ensures, c.in_ok-push_str-3.ensures.bytes, c.in_ok-write_number-2.ensures, c.in_ok-push_str-2.ensures.bytes, c.in_ok-write_number.ensures, c.in_ok-push_str.ensures.bytes, c.in_ok-write_head.ensures, c.from.ensures) (simp append_assoc)
