-- Nothing follows a history that has an outcome, so that two complete histories are one.
use Rattle.std.proofs.Common.{◌≡◌, ℕ, suc, Bool, true, false, not, Option, Some, None, is_some, if◌then◌else◌, [], ◌∷◌, ◌++◌, length, refl, ap, sym, ◌∙◌, inl, inr, arith, subst, length-append}
use Rattle.std.proofs.lemmas.Bool.{cases_lt, and_parts, not-true}
use Rattle.thread_table.specs.Threads.{serial_list}
use Rattle.token.specs.Setup.{Setup, list_in}
use Rattle.token.specs.History.{History, IsNextOfList, present, phase_of, list_of, heads, keeps, last_outcome, is_quiet, outcome, same_threads, IsPrefix}
use Rattle.token.specs.Legal.{Follows, IsLegal}
use Rattle.token.specs.Outcome.{quiet_outcome}
use Rattle.token.specs.Turns.{Step}
use Rattle.token.specs.declared.outcome.RunOutcome.{RunOutcome}
use Rattle.token.proofs.Dues.{IsTurnOf, turn_of_step}
use Rattle.shuffled_phases.proofs.Lists.{none-part}
use Rattle.token.proofs.SameThreads.{same_threads-true}
use Rattle.token.proofs.SerialList.{listed_part}
use Rattle.token.proofs.OneStep.{used_up}
use Rattle.token.proofs.OneHistory.{shorter}
use Rattle.token.proofs.Versions.{list_of_next}

-- a history with an outcome that doesn't end by its last turn is quiet
quiet_of : (ends : RunOutcome) (last : Option RunOutcome) (quiet : Bool) (there : RunOutcome) → last ≡ None
    → (if is_some last then last else (if quiet then Some there else None)) ≡ Some ends → quiet ≡ true
quiet_of ends (Some other) quiet there none is = cc
quiet_of ends None true there none is = refl
quiet_of ends None false there none is = cc

-- what quiet says
record Quiet (setup : Setup) (history : History) : Type 0 where
  lets_go : keeps history ≡ false
  used : list_of setup history (phase_of history) ≡ heads history (phase_of history)
  empty : serial_list (present setup history).threads ≡ []

quiet_from : (setup : Setup) (history : History) → is_quiet setup history ≡ true → Quiet setup history
unfolding is_quiet
quiet_from setup history is =
    let parts = and_parts (not (keeps history)) _ is in
    let more = and_parts (same_threads (list_of setup history (phase_of history)) (heads history (phase_of history))) _ parts.1 in
    record { lets_go = not-true (keeps history) parts.0; used = same_threads-true _ _ more.0; empty = same_threads-true _ _ more.1 }

no_next : (setup : Setup) (history : History) (phase thread : ℕ) → IsLegal setup history → Quiet setup history → IsNextOfList setup history phase thread → ⊥
no_next setup history phase thread legal quiet next =
    elim next.current [
      | inl here ↦ used_up (list_of setup history phase) (heads history phase) thread next.rest (rw here quiet.used) next.next
      | inr there ↦ no_list setup history phase thread legal quiet next there.0
    ]
  where
    no_list : (setup : Setup) (history : History) (phase thread : ℕ) → IsLegal setup history → Quiet setup history → IsNextOfList setup history phase thread → phase ≡ suc (phase_of history) → ⊥
    no_list setup history phase thread legal quiet next later =
        let nobody : list_in setup phase (present setup history).threads ≡ [] = none-part _ _ (listed_part setup phase (present setup history).threads) quiet.empty in
        let none : length (list_of setup history phase) ≡ 0 = ap length (list_of_next setup history phase legal (omega arith) ∙ nobody) in
        let some = ap length next.next ∙ length-append (heads history phase) (thread ∷ next.rest) in
        omega arith

not_due : (setup : Setup) (history : History) (phase thread : ℕ) (keeper : Bool) → keeper ≡ false → IsLegal setup history → Quiet setup history
    → IsTurnOf keeper setup history phase thread → ⊥
not_due setup history phase thread true lets_go legal quiet due = cc
not_due setup history phase thread false lets_go legal quiet due = no_next setup history phase thread legal quiet due

pub nothing_follows : (setup : Setup) (history : History) (step : Step) (ends : RunOutcome) → IsLegal setup history → outcome setup history ≡ Some ends → Follows setup history step → ⊥
unfolding outcome
nothing_follows setup history step ends legal is follows =
    let all = quiet_from setup history (quiet_of ends (last_outcome history) (is_quiet setup history) (quiet_outcome (present setup history)) follows.cut is) in
    not_due setup history step.turn.phase step.turn.thread (keeps history) all.lets_go legal all (turn_of_step setup history step follows)

-- no steps are after a history with an outcome
nothing_after : (setup : Setup) (history newer : History) (ends : RunOutcome) → outcome setup history ≡ Some ends → IsLegal setup (newer ++ history) → newer ≡ []
unfolding IsLegal
nothing_after setup history [] ends is legal = refl
nothing_after setup history (step ∷ newer) ends is legal =
    let none : newer ≡ [] = nothing_after setup history newer ends is legal.1 in
    let follows : Follows setup history step = subst (λ steps. Follows setup (steps ++ history) step) none legal.0 in
    let prefix : IsLegal setup history = subst (λ steps. IsLegal setup (steps ++ history)) none legal.1 in
    absurd (nothing_follows setup history step ends prefix is follows)

complete_is_whole : (setup : Setup) (one other : History) (ends : RunOutcome) → outcome setup one ≡ Some ends → IsLegal setup other → IsPrefix one other → one ≡ other
complete_is_whole setup one other ends is legal prefix =
    let none : prefix.0 ≡ [] = nothing_after setup one prefix.0 ends is (subst (IsLegal setup) prefix.1 legal) in
    sym (prefix.1 ∙ ap (λ newer. newer ++ one) none)

one_complete : (setup : Setup) (one other : History) (ends other_ends : RunOutcome) → IsLegal setup one → IsLegal setup other
    → outcome setup one ≡ Some ends → outcome setup other ≡ Some other_ends → one ≡ other
one_complete setup one other ends other_ends first second first_ends second_ends =
    elim (cases_lt (length one) (length other)) [
      | inl below ↦ complete_is_whole setup one other ends first_ends second (shorter setup one other first second (omega arith))
      | inr fits ↦ sym (complete_is_whole setup other one other_ends second_ends first (shorter setup other one second first fits))
    ]

pub one_answer : (setup : Setup) (one other : History) (ends other_ends : RunOutcome) → IsLegal setup one → IsLegal setup other
    → outcome setup one ≡ Some ends → outcome setup other ≡ Some other_ends → (one ≡ other) × (ends ≡ other_ends)
one_answer setup one other ends other_ends first second first_ends second_ends =
    let same = one_complete setup one other ends other_ends first second first_ends second_ends in
    let ended : Some ends ≡ Some other_ends = sym first_ends ∙ ap (outcome setup) same ∙ second_ends in
    (same, cc ended)
