use Rattle.std.proofs.Common.{rules, append_assoc}
use Rattle.tracer.specs.TraceText.{trap_text}
use Rattle.tracer.proofs.turn_line.write_trap.Goals as goal

pub returns : goal.returns
unfolding trap_text
returns c = search (rules, append_assoc)
