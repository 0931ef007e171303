use Rattle.std.proofs.Common.{List, ap, length, refl}
use Rattle.trace_events.specs.Recording.{state_at}
use Rattle.trace_events.specs.Threads.{due, in_use, instructions, instructions_of, last_of, token_of, waiting}
use Rattle.trace_events.specs.declared.thread_state.ThreadState.{ThreadState}
use Rattle.trace_events.proofs.run_progress.RunProgress.new.Goals as goal

pub returns : goal.returns
unfolding due in_use instructions instructions_of last_of token_of waiting
returns c = record {
  last = refl;
  phase = refl;
  instructions = refl;
  waiters = c.new.ensures.items;
  in_use = ap length c.new-2.ensures.items;
  threads = λ thread. ap (λ (states : List ThreadState). state_at states thread) c.new-2.ensures.items;
}
