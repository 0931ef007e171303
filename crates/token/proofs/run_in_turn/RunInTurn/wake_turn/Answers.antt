use Rattle.std.proofs.Common.{◌<◌, ◌∙◌, ℕ, length, sym, subst}
use Rattle.call_table.specs.Shared.{state_of}
use Rattle.call_table.specs.State.{State}
use Rattle.token.specs.Due.{thread_due}
use Rattle.token.specs.RunInTurn.{point_of}
use Rattle.token.specs.declared.due.Due.{Due}
use Rattle.token.proofs.Committing.{wake_there}
use Rattle.token.proofs.run_in_turn.RunInTurn.wake_turn.Goals as goal

pub count-requires-clause-thread : goal.count-requires-clause-thread
unfolding point_of
count-requires-clause-thread c =
    let due : thread_due c.due-due.result < length (state_of c.args.self.now.shared).threads =
    subst (λ (who : Due). thread_due who < length (state_of c.args.self.now.shared).threads) (sym c.due-due.ensures.due) c.requires.due.now_there in
    let below : c.thread-2.result < length (state_of c.args.self.now.shared).threads = subst (λ (n : ℕ). n < length (state_of c.args.self.now.shared).threads) (sym c.thread-2.ensures) due in
    subst (λ (n : ℕ). n < length (state_of c.wake.new.self).threads) (c.thread-2.ensures ∙ sym c.thread.ensures)
    (subst (λ (after : State). c.thread-2.result < length after.threads) (sym c.wake.ensures.woken) (wake_there (state_of c.args.self.now.shared) c.thread-2.result c.mutex-2.result below))
