use Rattle.command_requests.proofs.Building.{defaulted, required}
use Rattle.command_requests.proofs.parameter.with_need.Goals as goal

pub returns-in-Required : goal.returns-in-Required
returns-in-Required c = λ rule is. rw c.in-Required.is (required rule c.args.arg c.required.result is c.required.ensures)

pub returns-in-Default : goal.returns-in-Default
returns-in-Default c = λ rule is. rw c.in-Default.is (defaulted rule c.args.arg c.in-Default.value c.default_value.result is c.default_value.ensures)
