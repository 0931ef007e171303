use Rattle.std.proofs.Common.{append_assoc}
use Rattle.trace_events.specs.Ending.{totals_text}
use Rattle.trace_events.proofs.ending.write_totals.Goals as goal

pub returns : goal.returns
unfolding totals_text
returns c = rw (c.in_ok-push_str-7.ensures.bytes, c.in_ok-write_number-4.ensures, c.in_ok-push_str-6.ensures.bytes, c.in_ok-write_number-3.ensures, c.in_ok-push_str-5.ensures.bytes, c.in_ok-write_quotient.ensures, c.in_ok-push_str-4.ensures.bytes, c.in_ok-write_number-2.ensures, c.in_ok-push_str-3.ensures.bytes, c.in_ok-write_number.ensures, c.in_ok-push_str-2.ensures.bytes, c.in_ok-push_str.ensures.bytes, c.opening.ensures, c.number_of.ensures, c.time_of.ensures, c.time_of-2.ensures, c.number_of-2.ensures, c.phase_of.ensures) (simp append_assoc)
