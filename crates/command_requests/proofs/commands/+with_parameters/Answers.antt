use Rattle.std.proofs.Common.{◌≡◌, IfOk, List, ◌∷◌, subst, sym}
use Rattle.command_requests.proofs.Building.{adds}
use Rattle.command_requests.specs.Commands.{Takes, with_rules}
use Rattle.command_requests.specs.Parameter.{rule_for, rules_for}
use Rattle.command_requests.specs.declared.parameter.Parameter.{Parameter}
use Rattle.command_requests.proofs.commands.+with_parameters.Goals as goal

pub returns : goal.returns
returns t c = λ shape takes.
    let first = c.in-Some.parameter.now in
    let are : c.args.parameters.now ≡ first ∷ c.in-Some.others.now = c.in-Some.ensures.cases.0 in
    subst (λ (all : List Parameter). IfOk c.with_parameters.result (Takes (with_rules shape (rules_for all)))) (sym are)
    (c.with_parameters.ensures _ (adds shape (rule_for first) _ _ _ takes c.arg.ensures c.in_ok-command.ensures))
