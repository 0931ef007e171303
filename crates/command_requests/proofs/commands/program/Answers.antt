use Rattle.std.proofs.lemmas.Result.{IfOk-weaker}
use Rattle.command_requests.proofs.Building.{has_command}
use Rattle.command_requests.specs.Commands as spec
use Rattle.command_requests.proofs.commands.program.Goals as goal

pub returns : goal.returns
returns c =
    let one = has_command _ spec.run _ _ _ c.in_ok-bare_program.ensures c.in_ok-run.ensures c.in_ok-subcommand.ensures in
    let two = has_command _ spec.explore _ _ _ one c.in_ok-explore.ensures c.in_ok-subcommand-2.ensures in
    let three = has_command _ spec.debug _ _ _ two c.in_ok-debug.ensures c.in_ok-subcommand-3.ensures in
    let four = has_command _ spec.disasm _ _ _ three c.in_ok-disasm.ensures c.in_ok-subcommand-4.ensures in
    let five = has_command _ spec.info _ _ _ four c.in_ok-info.ensures c.in_ok-subcommand-5.ensures in
    IfOk-weaker c.subcommand-6.result _ _ (λ new added. has_command _ spec.replay _ _ new five c.in_ok-replay.ensures added) c.subcommand-6.ensures
