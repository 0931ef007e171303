use Rattle.std.proofs.Common.{◌≡◌, ◌∙◌, ap, map, subst}
use Rattle.std.proofs.lemmas.Result.{IfOk-weaker}
use Rattle.clap.specs.Faults.{fault_of, is_simple_and_free}
use Rattle.clap.specs.Kinds.{FailsBy}
use Rattle.clap.specs.Words.{App, app_of, is_simple, subcommand_of}
use Rattle.command_requests.proofs.Matches.{complete, failed, passed}
use Rattle.command_requests.specs.Commands as spec
use Rattle.command_requests.proofs.parsing.matched.Goals as goal

pub returns-clause-passed : goal.returns-clause-passed
returns-clause-passed g c =
    let words = map g.S.AsStr.text c.args.arguments.now in
    let answer = c.try_get_matches_from_mut.result in
    let program_is : app_of c.in_ok-program.program ≡ spec.program = c.in_ok-program.ensures in
    let fails : FailsBy (fault_of spec.program words) answer = subst (λ (app : App). FailsBy (fault_of app words) answer) program_is (c.try_get_matches_from_mut.ensures.kinds (ap is_simple_and_free program_is)) in
    passed _ answer fails

pub returns-clause-found : goal.returns-clause-found
returns-clause-found g c =
    let words = map g.S.AsStr.text c.args.arguments.now in
    let program_is : app_of c.in_ok-program.program ≡ spec.program = c.in_ok-program.ensures in
    IfOk-weaker c.try_get_matches_from_mut.result _ _ (λ matches has. (has.2 (ap is_simple program_is)).1 ∙ ap (λ (app : App). subcommand_of app words) program_is) c.try_get_matches_from_mut.ensures.ok

pub returns-clause-complete : goal.returns-clause-complete
returns-clause-complete g c =
    let words = map g.S.AsStr.text c.args.arguments.now in
    let answer = c.try_get_matches_from_mut.result in
    let program_is : app_of c.in_ok-program.program ≡ spec.program = c.in_ok-program.ensures in
    let fails : FailsBy (fault_of spec.program words) answer = subst (λ (app : App). FailsBy (fault_of app words) answer) program_is (c.try_get_matches_from_mut.ensures.kinds (ap is_simple_and_free program_is)) in
    complete words answer (passed _ answer fails)
    (IfOk-weaker answer _ _ (λ matches has. (has.2 (ap is_simple program_is)).1 ∙ ap (λ (app : App). subcommand_of app words) program_is) c.try_get_matches_from_mut.ensures.ok)

pub returns-clause-failed : goal.returns-clause-failed
returns-clause-failed g c =
    let words = map g.S.AsStr.text c.args.arguments.now in
    let answer = c.try_get_matches_from_mut.result in
    let program_is : app_of c.in_ok-program.program ≡ spec.program = c.in_ok-program.ensures in
    failed _ answer (subst (λ (app : App). FailsBy (fault_of app words) answer) program_is (c.try_get_matches_from_mut.ensures.kinds (ap is_simple_and_free program_is)))
