use Rattle.std.proofs.Common.{append_assoc, ◌∙◌}
use Rattle.trace_events.specs.Events.{flow_text}
use Rattle.trace_events.proofs.Ok.{where_ok}
use Rattle.trace_events.proofs.event.write_flow_ends.Goals as goal

pub returns : goal.returns
unfolding flow_text
returns c = where_ok c.write_flow_end-2.result _ _ (λ wrote. wrote ∙ rw (c.in_ok-write_head-2.ensures, c.in_ok-write_flow_end.ensures, c.in_ok-write_head.ensures, c.from.ensures, c.from-2.ensures) (simp append_assoc)) c.write_flow_end-2.ensures
