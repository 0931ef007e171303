use Rattle.std.proofs.Common.{subst}
use Rattle.std.proofs.lemmas.Result.{on_ok_weaker}
use Rattle.output_files.specs.Content.{Tells}
use Rattle.command_run.specs.Placing.{IsPut}
use Rattle.command_requests.specs.declared.destination.Destination.{Destination}
use Rattle.command_run.proofs.item.finish_item.Goals as goal

pub returns-in-Ok-clause-put : goal.returns-in-Ok-clause-put
returns-in-Ok-clause-put g c =
    let whole = rw c.in-Ok.is at c.complete-output.ensures.whole in
    on_ok_weaker c.publish.result
    (λ put turns changes told order.
    let made = whole turns changes told order in (
      made.0,
      made.1,
      subst
          (λ (to : Destination). IsPut (Tells g.F.Output.Write.contents) to made.0 (g.F.Files.content c.publish.new.files) (g.W.Write.contents c.args.writer.now) (g.W.Write.contents c.publish.new.writer))
          c.complete-output.ensures.destination
          (put made.0 made.2),
    ))
    c.publish.ensures.put
