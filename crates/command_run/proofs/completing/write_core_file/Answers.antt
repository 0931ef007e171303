use Rattle.std.proofs.Common.{◌∙◌}
use Rattle.command_run.proofs.Making.{core_given}
use Rattle.command_run.proofs.completing.write_core_file.Goals as goal

pub returns-in-Ok-clause-whole : goal.returns-in-Ok-clause-whole
returns-in-Ok-clause-whole g c =
    core_given g.O.Write.contents c.args.output.now c.write_core.new.writer c.args.ended.now c.as_slice-2.result.now
    (c.as_slice-2.ensures.value ∙ (rw c.as_slice.ensures.value at c.in_ok-threads.ensures)) c.in-Ok.ensures.written
