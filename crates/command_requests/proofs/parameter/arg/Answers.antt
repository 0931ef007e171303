use Rattle.command_requests.proofs.Building.{helped}
use Rattle.command_requests.specs.Parameter.{formed}
use Rattle.command_requests.proofs.parameter.arg.Goals as goal

pub returns : goal.returns
returns c =
    let parameter = c.args.parameter.now in
    helped _ c.with_need.result _ c.help.result (c.with_need.ensures (formed parameter.form parameter.name.now) c.of_form.ensures) c.help.ensures
