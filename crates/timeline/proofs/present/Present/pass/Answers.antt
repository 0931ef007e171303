use Rattle.std.proofs.Common.{◌+◌, arith}
use Rattle.timeline.specs.Present.{step_of}
use Rattle.timeline.proofs.Ending.{earlier}
use Rattle.timeline.proofs.Turning.{same_begins}
use Rattle.timeline.proofs.present.Present.pass.Goals as goal

pub pass_step-requires-clause-leads : goal.pass_step-requires-clause-leads
pass_step-requires-clause-leads c =
    let leads = c.requires.leads in
    let begun = c.begin.new.self in
    let there = earlier leads.start (step_of begun + 1) c.args.until leads.moment (omega (arith, c.requires.goes.further, c.begin.ensures.step)) leads.there in
    record {
      start = leads.start;
      begins = same_begins leads.start c.args.self.now begun c.begin.ensures.turn leads.begins;
      moment = there.0;
      there = there.1;
    }
