use Rattle.std.proofs.Common.{◌≡◌, slice_set, ap, ◌∙◌}
use Rattle.paged_memory.specs.PageMap.{memory_of_pages}
use Rattle.paged_memory.specs.Snapshot.{cells_of}
use Rattle.call_table.specs.CommitAndWake.{committed_bytes}
use Rattle.call_table.specs.Effects.{Effect, settled}
use Rattle.call_table.specs.State.{State}
use Rattle.call_table.specs.StateInCall.{state_in}
use Rattle.call_table.proofs.Committing.{there_after, ready_after, committed_effect, taken_back}
use Rattle.call_table.proofs.state_in_call.StateInCall.commit_and_change.Goals as goal

pub call-requires : goal.call-requires
unfolding state_in
call-requires c = record {
  made = there_after (state_in c.commit.new.self) (state_in c.args.self.now) c.args.thread _ _ _ c.requires.made c.in_ok-commit.ensures.committed;
  ready = ready_after (state_in c.commit.new.self) (state_in c.args.self.now) c.args.thread _ _ _ c.requires.made c.requires.ready c.in_ok-commit.ensures.committed;
  parked = c.in_ok-commit.ensures.ends.parked;
}

pub restore-requires : goal.restore-requires
unfolding state_in
restore-requires c =
    let after : state_in c.call.new.self ≡ committed_bytes (state_in c.args.self.now) c.args.thread c.args.patch.now c.args.hart c.args.executed = c.in-Err.ensures.settles.kept ∙ c.in_ok-commit.ensures.committed in
    record {
      made = there_after (state_in c.call.new.self) (state_in c.args.self.now) c.args.thread _ _ _ c.requires.made after;
      ready = ready_after (state_in c.call.new.self) (state_in c.args.self.now) c.args.thread _ _ _ c.requires.made c.requires.ready after;
      parked = c.in-Err.ensures.settles.ends.parked;
    }

pub returns-in-Ok : goal.returns-in-Ok
unfolding state_in
returns-in-Ok c =
    let made = committed_effect (state_in c.commit.new.self) (state_in c.args.self.now) c.args.thread _ _ _ c.requires.made c.in_ok-commit.ensures.committed in
    let settles = c.in-Ok.ensures.settles in
    record {
      reply = settles.reply ∙ ap (λ (outcome : Effect). outcome.reply) made;
      settled = settles.settled ∙ ap (settled c.args.thread) made;
      kept = tt;
      ends = record { parked = settles.ends.parked; input = settles.ends.input ∙ c.in_ok-commit.ensures.ends.input };
    }

pub returns-in-Err : goal.returns-in-Err
unfolding state_in
returns-in-Err c =
    let state : State = state_in c.args.self.now in
    let memory : cells_of c.in_ok-memory.memory ≡ state.memory = ap memory_of_pages c.in_ok-memory.ensures.pages in
    let after : state_in c.call.new.self ≡ committed_bytes state c.args.thread c.args.patch.now c.args.hart c.args.executed = c.in-Err.ensures.settles.kept ∙ c.in_ok-commit.ensures.committed in
    record {
      reply = tt;
      settled = tt;
      kept = c.restore.ensures.restored
          ∙ ap (λ (now : State). record now { memory = cells_of c.in_ok-memory.memory; threads = slice_set now.threads c.args.thread c.get-row.result.now }) after
          ∙ taken_back state c.args.thread c.args.patch.now c.args.hart c.args.executed (cells_of c.in_ok-memory.memory) c.get-row.result.now c.get-row.ensures memory;
      ends = record { parked = c.restore.ensures.ends.parked; input = c.restore.ensures.ends.input ∙ c.in-Err.ensures.settles.ends.input ∙ c.in_ok-commit.ensures.ends.input };
    }
