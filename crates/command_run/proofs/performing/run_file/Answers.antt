use Rattle.std.proofs.Common.{refl}
use Rattle.output_files.specs.Content.{Tells}
use Rattle.symbols.specs.Symbols.{symbols_of}
use Rattle.command_run.proofs.Runs.{runs_to, runs_unbegun}
use Rattle.command_run.proofs.performing.run_file.Goals as goal

pub returns-in_err-opened-clause-answer : goal.returns-in_err-opened-clause-answer
returns-in_err-opened-clause-answer g c =
    runs_unbegun (Tells g.F.Output.Write.contents) _ _ _ _ _ c.in_err-opened.ensures.failed refl refl c.from_residual-in_err-opened.ensures.1

pub returns-clause-answer : goal.returns-clause-answer
returns-clause-answer g c =
    let are = c.in_ok-opened.ensures.opened in
    runs_to (Tells g.F.Output.Write.contents) _ _ _ c.in_ok-opened.opened c.run_opened_file.result are
    (c.run_opened_file.ensures.answer (symbols_of are.0) are.4.symbols)
