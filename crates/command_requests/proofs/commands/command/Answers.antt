use Rattle.command_requests.proofs.Building.{begun}
use Rattle.command_requests.proofs.commands.command.Goals as goal

pub returns : goal.returns
returns c =
    c.with_parameters.ensures _ (begun c.args.name.now _ c.new.result c.about.result c.new.ensures.app c.new.ensures.local c.about.ensures)
