use Rattle.std.specs.String.{string_bytes}
use Rattle.command_run.proofs.Making.{report_made}
use Rattle.command_run.proofs.completing.report_of.Goals as goal

pub returns : goal.returns
returns c =
    report_made string_bytes c.args.sharing.now c.in_ok-rows.field-0.items c.report_text.result c.in_ok-rows.ensures
    (rw c.deref.ensures.value at c.report_text.ensures)
