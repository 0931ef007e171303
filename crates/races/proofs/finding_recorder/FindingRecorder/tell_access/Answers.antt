use Rattle.std.proofs.lemmas.Result.{on_ok_weaker}
use Rattle.races.proofs.Plain.{misuse_at_access, order_at_access}
use Rattle.races.proofs.finding_recorder.FindingRecorder.tell_access.Goals as goal

pub returns-clause-recorded : goal.returns-clause-recorded
returns-clause-recorded c =
    let old = c.args.self.now in
    on_ok_weaker c.record_access-2.result
    (λ freed history records. record {
      races = c.in_ok-record_access.ensures.recorded history records.races;
      freed = freed history records.freed;
      order = order_at_access old.order c.args.access.now history records.order;
      misuse = misuse_at_access old.misuse c.args.access.now history records.misuse;
    })
    c.record_access-2.ensures.recorded
