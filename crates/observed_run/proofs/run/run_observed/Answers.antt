use Rattle.std.proofs.Common.{◌≡◌, Result, Some, Vec, subst, sym, []}
use Rattle.std.proofs.lemmas.Result.{IfOk-weaker}
use Rattle.std.specs.declared.alloc.Global.{Global}
use Rattle.races.specs.declared.finding.Finding.{Finding}
use Rattle.runtime.specs.Recorded.{ComesTo, IsConcluded}
use Rattle.runtime.specs.Turns.{GoesOnSunk, sunk}
use Rattle.runtime.specs.declared.interruption.Interruption.{Interruption}
use Rattle.runtime.proofs.Concluded.{of_sunk}
use Rattle.token.specs.RunInTurn.{point_of}
use Rattle.token.specs.declared.outcome.RunOutcome.{RunOutcome}
use Rattle.token.specs.declared.run_in_turn.RunInTurn.{RunInTurn}
use Rattle.observed_run.specs.Runs.{AreFindingsOf}
use Rattle.observed_run.proofs.Going.{ended_sunk, findings_found}
use Rattle.observed_run.proofs.run.run_observed.Goals as goal

pub returns-clause-comes : goal.returns-clause-comes
returns-clause-comes g c =
    let serial = c.recorded_by-serial.result in
    let end = c.observe_turns-found.new.serial in
    let sink = c.args.sink.now in
    let sink' = c.observe_turns-found.new.sink in
    let records = g.K.Recorder.records in
    let writes = g.K.Recorder.writes in
    let taken = g.S.Sink.taken in
    let failed = g.S.Sink.failed in
    let came = ended_sunk writes taken failed serial end sink sink' c.observe_turns-found.result c.observe_turns-found.ensures.goes in
    rw c.with_findings.ensures.run
    (subst (λ (run : RunInTurn). ComesTo records writes taken failed (point_of run).setup c.conclude.result sink sink') c.recorded_by-serial.ensures
    (of_sunk records writes taken failed (point_of serial).setup c.conclude.result sink sink'
    (c.conclude.ensures.comes serial (sunk taken failed sink) (sunk taken failed sink') (subst (λ (run : RunInTurn). (point_of run).state.output ≡ []) (sym c.recorded_by-serial.ensures) c.requires.output)
    (subst (λ (ended : Result RunOutcome Interruption). GoesOnSunk writes Some ended serial end (sunk taken failed sink) (sunk taken failed sink')) (sym c.apart-ended.ensures.ended) came))))

pub returns-clause-findings : goal.returns-clause-findings
returns-clause-findings g c =
    let found = c.observe_turns-found.result in
    let setup = (point_of c.args.start).setup in
    let done = subst (λ (run : RunInTurn). (point_of run).done ≡ 0) (sym c.recorded_by-serial.ensures) c.requires.done in
    let are =
    IfOk-weaker found _ (λ (found : RunOutcome × Vec Finding Global). AreFindingsOf setup found.1.items)
    (λ given are. subst (λ (run : RunInTurn). AreFindingsOf (point_of run).setup given.1.items) c.recorded_by-serial.ensures (are done)) c.observe_turns-found.ensures.findings in
    let concluded = subst (λ (ended : Result RunOutcome Interruption). IsConcluded ended c.conclude.result.result) c.apart-ended.ensures.ended c.conclude.ensures.concluded in
    rw c.with_findings.ensures.run
    (findings_found (λ (findings : Vec Finding Global). AreFindingsOf setup findings.items) found c.conclude.result.result c.apart-ended.result.1 c.with_findings.result.findings concluded are c.apart-ended.ensures.findings c.with_findings.ensures.findings)
