use Rattle.std.proofs.Common.{arith}
use Rattle.std.proofs.lemmas.List.Elements.{All-push}
use Rattle.schedule_text.specs.Text.{IsWritable}
use Rattle.schedule_text.proofs.Lines.{none_written, text_goes_on}
use Rattle.schedule_text.proofs.parsing.parse.Goals as goal

pub loop-line-init : goal.loop-line-init
loop-line-init c = rw c.new-events.ensures.items (record { written = λ k d below. absurd (omega arith); parts = none_written c.args.text.now })

pub loop-line-preserved : goal.loop-line-preserved
loop-line-preserved c =
    let first = c.in-Some.ensures in
    rw c.in_default-push.ensures.items
    (record {
      written = All-push IsWritable c.loop-line.events.items c.in-Some.line.event c.loop-line.invariant.written first.writable;
      parts = text_goes_on c.args.text.now c.loop-line.rest.now c.in-Some.line.rest.now c.loop-line.events.items c.in-Some.line.event c.loop-line.invariant.parts first.parts;
    })
