use Rattle.std.proofs.Common.{◌∙◌, rules, sym}
use Rattle.std.specs.Prelude.{not}
use Rattle.std.proofs.lemmas.Fn.{filter_same}
use Rattle.trace_events.specs.Threads.{is_among}
use Rattle.trace_events.specs.declared.waiting_thread.WaitingThread.{WaitingThread}
use Rattle.trace_events.proofs.More.{none_leave}
use Rattle.trace_events.proofs.waiting_thread.remove.Goals as goal

pub returns-then-is_empty : goal.returns-then-is_empty
returns-then-is_empty c = none_leave c.args.freed.now c.args.waiters.now.items (sym c.is_empty.ensures ∙ c.if-is_empty.true)

pub returns : goal.returns
returns c = filter_same _ (λ (waiter : WaitingThread). not (is_among waiter.thread c.args.freed.now)) _ (λ x b f called. search rules) _ _ c.retain.ensures.filtered
