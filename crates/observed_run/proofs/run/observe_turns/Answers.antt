use Rattle.std.proofs.Common.{Some, Vec, refl, []}
use Rattle.std.specs.declared.alloc.Global.{Global}
use Rattle.races.specs.declared.finding.Finding.{Finding}
use Rattle.token.specs.RunInTurn.{point_of}
use Rattle.token.specs.declared.outcome.RunOutcome.{RunOutcome}
use Rattle.observed_run.specs.Runs.{AreEvents}
use Rattle.observed_run.proofs.Going.{goes_unfound}
use Rattle.observed_run.proofs.Turning.{at_start}
use Rattle.observed_run.proofs.run.observe_turns.Goals as goal

pub returns-in_err-findings-clause-goes : goal.returns-in_err-findings-clause-goes
returns-in_err-findings-clause-goes g c =
    goes_unfound g.K.Recorder.writes g.S.Sink.taken g.S.Sink.failed (λ (found : RunOutcome × Vec Finding Global). Some found.0) c.args.serial.now c.go_to_end.new.serial c.args.sink.now c.go_to_end.new.sink c.in_ok-outcome.outcome
    _ c.from_residual-in_err-findings.ensures.1 c.in_ok-outcome.ensures.goes

pub returns-clause-findings : goal.returns-clause-findings
returns-clause-findings g c = λ none.
    let start = point_of c.args.serial.now in
    let led = c.in_ok-outcome.ensures.leads.leads start [] AreEvents.none c.in_ok-new.ensures in
    let legal = c.in_ok-outcome.ensures.leads.legal in
    record {
      start = start;
      begins = at_start start start legal.0 refl none legal.1;
      setup_is = refl;
      point = point_of c.go_to_end.new.serial;
      events = led.0;
      ended = c.in_ok-outcome.ensures.ended;
      are_events = led.1;
      are_findings = c.in_ok-findings.ensures.found led.0 led.2;
    }
