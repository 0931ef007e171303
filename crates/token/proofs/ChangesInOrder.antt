-- The changes of a legal history come in the order of their phases, and each is of one of 256 threads.
use Rattle.std.proofs.Common.{ℕ, ◌<◌, ◌≤◌, Bool, true, false, [], ◌∷◌, inl, inr, arith}
use Rattle.std.specs.List.{All, AllPairs}
use Rattle.std.proofs.lemmas.List.Elements.{All-push}
use Rattle.std.proofs.lemmas.List.Quantifiers.{all_pairs_push}
use Rattle.token.specs.Change.{Change}
use Rattle.token.specs.History.{History, change_of, changes_of, keeps, phase_of}
use Rattle.token.specs.Legal.{Follows, IsLegal}
use Rattle.token.specs.Setup.{Setup}
use Rattle.token.specs.Turns.{Step}
use Rattle.token.proofs.Dues.{IsTurnOf, thread_is, turn_of_step}
use Rattle.token.proofs.Statuses.{few_threads}
use Rattle.token.proofs.TurnThere.{due_present}

-- a turn is of the phase of the turn before or of the next one
no_earlier : (setup : Setup) (before : History) (phase thread : ℕ) (keeper : Bool) → IsTurnOf keeper setup before phase thread → phase_of before ≤ phase
no_earlier setup before phase thread true due = let same = due.0 in omega arith
no_earlier setup before phase thread false due = elim due.current [ inl here ↦ omega arith | inr there ↦ let next = there.0 in omega arith ]

later_phase : (setup : Setup) (before : History) (step : Step) → Follows setup before step → phase_of before ≤ step.turn.phase
later_phase setup before step follows = no_earlier setup before step.turn.phase step.turn.thread (keeps before) (turn_of_step setup before step follows)

-- no change is of a later phase than the last turn
upto_last : (setup : Setup) (history : History) → IsLegal setup history → All (λ change. change.phase ≤ phase_of history) (changes_of history)
unfolding IsLegal changes_of phase_of
upto_last setup [] legal = λ k d inside. absurd (omega arith)
upto_last setup (step ∷ before) legal =
    let later = later_phase setup before step legal.0 in
    All-push (λ (change : Change). change.phase ≤ step.turn.phase) (changes_of before) (change_of step)
    (λ k d inside. let upto = upto_last setup before legal.1 k d inside in omega arith) (omega arith)

pub phases_ascend : (setup : Setup) (history : History) → IsLegal setup history → AllPairs (λ earlier later. earlier.phase ≤ later.phase) (changes_of history)
unfolding IsLegal changes_of
phases_ascend setup [] legal = λ i j d before inside. absurd (omega arith)
phases_ascend setup (step ∷ before) legal =
    let later = later_phase setup before step legal.0 in
    all_pairs_push (λ (earlier later : Change). earlier.phase ≤ later.phase) (changes_of before) (change_of step) (phases_ascend setup before legal.1)
    (λ k d inside. let upto = upto_last setup before legal.1 k d inside in omega arith)

pub thread_numbers_small : (setup : Setup) (history : History) → IsLegal setup history → All (λ change. change.thread < 256) (changes_of history)
unfolding IsLegal changes_of
thread_numbers_small setup [] legal = λ k d inside. absurd (omega arith)
thread_numbers_small setup (step ∷ before) legal =
    let there = due_present setup before step.turn.phase legal.0.who legal.1 legal.0.order in
    let few = few_threads setup before legal.1 in
    let same = thread_is setup before step legal.0 in
    All-push (λ (change : Change). change.thread < 256) (changes_of before) (change_of step) (thread_numbers_small setup before legal.1) (omega arith)
