use Rattle.std.proofs.Common.{ℕ, List, Option, sym, subst}
use Rattle.std.proofs.lemmas.Result.{err_from_is_err_and}
use Rattle.runtime.specs.Run.{setup_from}
use Rattle.runtime.specs.Sending.{AppendsPrefix}
use Rattle.runtime.proofs.Prefixes.{appends_prefix}
use Rattle.runtime.proofs.running.run_into.Goals as goal

pub returns-in_err-report-in-Ok-clause-sent : goal.returns-in_err-report-in-Ok-clause-sent
returns-in_err-report-in-Ok-clause-sent g c =
    let p = err_from_is_err_and c.from_residual.result c.from_residual.ensures.1 in
    let whole = rw c.in-Ok.is at c.run_recorded-result.ensures.answers in
    let sent = rw c.in-Ok.is at c.run_recorded-result.ensures.sent in
    let ends = whole.1.some in
    let old : Option (List ℕ) = g.S.Sink.taken c.args.sink.now in
    let new : Option (List ℕ) = g.S.Sink.taken c.run_recorded-result.new.sink in
    rw (p.1, p.2)
    (ends.0, ends.1.legal, subst (λ (output : List ℕ). AppendsPrefix output old new) (sym ends.2.output) (appends_prefix c.in-Ok.end.output.items old new sent))

pub returns-in_ok-report-in-Ok-clause-answers : goal.returns-in_ok-report-in-Ok-clause-answers
returns-in_ok-report-in-Ok-clause-answers g c =
    let whole = rw c.in-Ok.is at c.run_recorded-result.ensures.answers in
    (whole.0, c.in_ok-report-in-Ok.ensures.report (setup_from c.args.elf.now c.args.input.now c.args.config.now) whole.1)
