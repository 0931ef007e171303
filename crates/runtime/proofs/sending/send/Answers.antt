use Rattle.std.proofs.Common.{arith, length-drop, ◌∙◌}
use Rattle.std.proofs.lemmas.List.{take_rest}
use Rattle.std.proofs.Math.Seq.{take-add}
use Rattle.runtime.proofs.Sent.{appends_more}
use Rattle.runtime.proofs.sending.send.Goals as goal

pub loop-sent-preserved : goal.loop-sent-preserved
loop-sent-preserved g c =
    let invariant = c.loop-sent.invariant in
    let more = c.in_ok-sent.ensures in
    let rest = take_rest c.args.bytes.now c.loop-sent.sent in
    let within = rw rest at more.within in
    let bytes = rw rest at more.bytes in
    record {
      within = omega (arith, length-drop c.loop-sent.sent c.args.bytes.now, within, c.loop-sent-test.true);
      taken = rw (take-add c.loop-sent.sent c.in_ok-sent.field-0 c.args.bytes.now) (appends_more _ _ _ _ _ invariant.taken bytes);
      steady = more.failures ∙ invariant.steady;
    }
