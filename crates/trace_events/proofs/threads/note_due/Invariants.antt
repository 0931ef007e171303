use Rattle.std.proofs.Common.{◌≡◌, ℕ, length, take}
use Rattle.trace_events.specs.Recording.{state_at}
use Rattle.trace_events.specs.Threads.{above, is_among, state_due}
use Rattle.trace_events.proofs.threads.note_due.Given as goal

abbrev pub invariant-loop-thread : goal.invariant-loop-thread
invariant-loop-thread l = record {
  noted : (other : ℕ) → state_at l.threads.items other ≡ state_due (is_among other (take l.thread-index l.freed)) l.cause (state_at l.initial.threads.items other);
  grown : length l.threads.items ≡ above (length l.initial.threads.items) (take l.thread-index l.freed);
}
