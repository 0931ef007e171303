use Rattle.std.proofs.Common.{rules, arith, ◌∙◌}
use Rattle.call_table.specs.StateInCall.{state_in}
use Rattle.call_table.proofs.Calls.{idle-ready, parked-called}
use Rattle.call_table.proofs.Fates.{reply_has_fate}
use Rattle.call_table.proofs.state_in_call.StateInCall.call.Goals as goal

pub carry_out-requires-clause-waits : goal.carry_out-requires-clause-waits
carry_out-requires-clause-waits c = record { number = omega arith; idle = idle-ready c.args.self.now c.args.thread c.requires.ready c.requires.parked }

pub returns-clause-settles : goal.returns-clause-settles
unfolding state_in
returns-clause-settles c = record {
  reply = search rules;
  settled = search rules;
  kept = search rules;
  ends = record {
    parked = parked-called c.settle.new.self c.carry_out.new.self c.args.self.now c.args.thread c.in_ok-reply.reply c.get.result.now c.call_of-call.result c.settle.ensures.done
        c.in_ok-reply.ensures.carries.done c.call_of-call.ensures.call c.get.ensures c.requires.ready c.requires.parked;
    input = c.settle.ensures.input ∙ c.in_ok-reply.ensures.carries.input;
  };
}

pub returns-clause-fate : goal.returns-clause-fate
unfolding state_in
returns-clause-fate c =
    reply_has_fate _ c.args.thread c.get.result.now c.call_of-call.result _ c.call_of-call.ensures.call c.get.ensures c.in_ok-reply.ensures.carries.done
