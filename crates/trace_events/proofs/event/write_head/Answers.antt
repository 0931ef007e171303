use Rattle.std.proofs.Common.{append_assoc, ◌∙◌}
use Rattle.trace_events.specs.Events.{head_text}
use Rattle.trace_events.proofs.Ok.{where_ok}
use Rattle.trace_events.proofs.event.write_head.Goals as goal

pub returns : goal.returns
unfolding head_text
returns c = where_ok c.write_number-2.result _ _ (λ wrote. wrote ∙ rw (c.in_ok-push_str-4.ensures.bytes, c.in_ok-write_number.ensures, c.in_ok-push_str-3.ensures.bytes, c.in_ok-push_str-2.ensures.bytes, c.in_ok-push_str.ensures.bytes) (simp append_assoc)) c.write_number-2.ensures
