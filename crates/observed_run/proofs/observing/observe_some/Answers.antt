use Rattle.std.proofs.lemmas.Result.{IfOk-weaker}
use Rattle.twins.specs.View.{cells_of}
use Rattle.observed_run.proofs.Sliced.{observed_after}
use Rattle.observed_run.proofs.observing.observe_some.Goals as goal

pub returns-clause-observed : goal.returns-clause-observed
returns-clause-observed c =
    let segment = c.args.segment.now in
    let done = c.args.done in
    let limit = c.limit_of-limit.result in
    let reached = c.in_ok-reached.reached in
    let within = c.limit_of-limit.ensures.greatest done c.requires.may in
    let on = rw c.pc.ensures.pc at c.in_ok-reached.ensures.runs in
    let told = rw c.pc.ensures.pc at c.in_ok-reached.ensures.told in
    IfOk-weaker c.observe_one.result _ _
    (λ end observed.
    observed_after c.args.actor segment.left segment.quantum done limit reached.left c.args.recorder.now c.observe_near.new.recorder c.observe_one.new.recorder c.args.hart.now (cells_of c.args.view.now.memory.memory)
    c.set_pc.new.self (cells_of c.observe_near.new.view.memory.memory) end c.observe_one.new.hart (cells_of c.observe_one.new.view)
    within c.in_ok-reached.ensures.left c.limit_of-limit.ensures.may.bound c.limit_of-limit.ensures.may.quantum
    (rw c.set_pc.ensures on) told observed)
    c.observe_one.ensures.observed
