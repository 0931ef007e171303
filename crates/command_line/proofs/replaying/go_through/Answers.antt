use Rattle.std.proofs.Common.{◌<◌, arith, length}
use Rattle.std.proofs.lemmas.Option.{slice_get_within}
use Rattle.token.specs.RunInTurn.{point_of}
use Rattle.command_line.proofs.Replayed.{all_replayed, cut_at, unprinted}
use Rattle.command_line.proofs.replaying.go_through.Goals as goal

pub returns-in_err-print_trace-clause-cut : goal.returns-in_err-print_trace-clause-cut
returns-in_err-print_trace-clause-cut g c =
    unprinted (point_of c.args.opened.start).setup c.args.workers c.args.opened.events.items _ _ _ _ c.in_err-print_trace.ensures.failed c.from_residual-in_err-print_trace.ensures.1

pub returns-in-Ok-clause-replayed : goal.returns-in-Ok-clause-replayed
returns-in-Ok-clause-replayed g c =
    all_replayed (point_of c.args.opened.start) _ _ _ _ c.args.workers c.args.opened.events.items c.outcome.result _ _ c.in_ok-world.ensures.point c.in_ok-world.ensures.stands
    c.in_ok-world.ensures.done c.in_ok-world.ensures.tally (rw c.as_slice.ensures.value at c.in-Ok.ensures.all) c.outcome.ensures.outcome c.in_ok-print_trace.ensures.printed

pub of_refused-requires : goal.of_refused-requires
of_refused-requires g c =
    let below : c.in-Err.refused.place < length c.as_slice.result.now = slice_get_within _ _ _ c.in-Err.ensures.refused.there in
    omega (arith, c.as_slice.ensures.len, c.args.opened.events.ok.0)

pub returns-clause-cut : goal.returns-clause-cut
returns-clause-cut g c =
    cut_at (point_of c.args.opened.start) _ _ _ _ c.args.workers c.args.opened.events.items c.in-Err.refused.place c.in-Err.refused.fault c.of_refused.result _ _
    c.in_ok-world.ensures.point c.in_ok-world.ensures.stands c.in_ok-world.ensures.done c.in_ok-world.ensures.tally (rw c.as_slice.ensures.value at c.in-Err.ensures.refused) c.of_refused.ensures
    c.in_ok-print_trace.ensures.printed
