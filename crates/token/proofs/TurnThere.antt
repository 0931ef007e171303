-- The thread of a turn is one of the threads.
use Rattle.std.proofs.Common.{◌≡◌, ℕ, ◌<◌, Bool, true, false, [], ◌∷◌, length, refl, arith}
use Rattle.shuffled_phases.proofs.Times.{each-first}
use Rattle.token.specs.Due.{thread_due}
use Rattle.token.specs.History.{History, IsNextOfList, keeps, present, thread_of}
use Rattle.token.specs.Legal.{IsDue, IsLegal}
use Rattle.token.specs.Setup.{Setup}
use Rattle.token.specs.declared.due.Due.{Due}
use Rattle.token.proofs.Dues.{IsTurnOf, turn_of_due, turn_of_step}
use Rattle.token.proofs.InOrder.{in_order, turns_from}
use Rattle.token.proofs.Statuses.{HasTurnIn, threads_grow}

-- who is next has a turn

pub next_has_turn : (setup : Setup) (history : History) (phase thread : ℕ) → IsLegal setup history → IsNextOfList setup history phase thread → HasTurnIn setup history thread
next_has_turn setup history phase thread legal next =
    each-first (HasTurnIn setup history) thread next.rest (turns_from setup history phase thread legal (in_order setup history legal) next)

due_there : (setup : Setup) (before : History) (phase thread : ℕ) → IsLegal setup before → (keeper : Bool) → keeps before ≡ keeper → IsTurnOf keeper setup before phase thread
    → (keeps before ≡ true → thread_of before < length (present setup before).threads) → thread < length (present setup before).threads
due_there setup before phase thread legal true is due there = let below = there is in let same = due.1 in omega arith
due_there setup before phase thread legal false is due there = (next_has_turn setup before phase thread legal due).0

pub thread_there : (setup : Setup) (history : History) → IsLegal setup history → keeps history ≡ true → thread_of history < length (present setup history).threads
unfolding IsLegal thread_of present keeps
thread_there setup [] legal keeper = cc
thread_there setup (step ∷ before) legal keeper =
    let more = threads_grow setup before step legal.0 in
    let below = due_there setup before step.turn.phase step.turn.thread legal.1 (keeps before) refl (turn_of_step setup before step legal.0) (thread_there setup before legal.1) in
    omega arith

-- who is due is there
pub due_present : (setup : Setup) (history : History) (phase : ℕ) (who : Due) → IsLegal setup history → IsDue setup history phase who → thread_due who < length (present setup history).threads
due_present setup history phase who legal is =
    due_there setup history phase (thread_due who) legal (keeps history) refl (turn_of_due setup history phase who is) (thread_there setup history legal)
