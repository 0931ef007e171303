-- At most one step follows a history.
use Rattle.std.proofs.Common.{◌≡◌, ℕ, ◌∷◌, ◌++◌, List, length, refl, ap, sym, ◌∙◌, inl, inr, arith, length-append, subst}
use Rattle.std.proofs.lemmas.List.{append_cancel_left}
use Rattle.call_table.specs.State.{State, row_of}
use Rattle.thread_table.specs.declared.status.Status.{Status}
use Rattle.thread_table.specs.declared.status.Status.TheVariants.{Ready, Woken}
use Rattle.token.specs.Due.{PrivateRun}
use Rattle.token.specs.History.{History, IsNextOfList, heads, list_of, phase_of, present, version}
use Rattle.token.specs.Legal.{Follows, IsDue, RunsPrivately, base_of, step_of}
use Rattle.token.specs.Setup.{Setup}
use Rattle.token.specs.Turns.{Step}
use Rattle.token.specs.declared.due.Due.{Due}
use Rattle.token.specs.declared.due.Due.TheVariants as due
use Rattle.token.proofs.SegmentEnds.{one_end}

-- the next of a list is determined
same_next : (list prefix : List ℕ) (one other : ℕ) (rest more : List ℕ) → list ≡ prefix ++ one ∷ rest → list ≡ prefix ++ other ∷ more → one ≡ other
same_next list prefix one other rest more first second =
    let tails : one ∷ rest ≡ other ∷ more = append_cancel_left prefix _ _ (sym first ∙ second) in
    cc

-- a list that is used up has no next
pub used_up : (list prefix : List ℕ) (thread : ℕ) (rest : List ℕ) → list ≡ prefix → list ≡ prefix ++ thread ∷ rest → ⊥
used_up list prefix thread rest same next =
    let longer = ap length next ∙ length-append prefix (thread ∷ rest) in
    let as_long = ap length same in
    omega arith

abbrev Same : ℕ → ℕ → ℕ → ℕ → Type 0
Same phase other_phase thread other = (phase ≡ other_phase) × (thread ≡ other)

same_phase : (setup : Setup) (before : History) (phase other_phase thread other : ℕ) → (one : IsNextOfList setup before phase thread)
    → (two : IsNextOfList setup before other_phase other) → phase ≡ other_phase → Same phase other_phase thread other
same_phase setup before phase other_phase thread other one two same =
    (same, same_next (list_of setup before phase) (heads before phase) thread other one.rest two.rest one.next (rw same two.next))

not_mixed : (setup : Setup) (before : History) (phase thread : ℕ) → (one : IsNextOfList setup before phase thread) → phase ≡ phase_of before
    → list_of setup before (phase_of before) ≡ heads before (phase_of before) → ⊥
not_mixed setup before phase thread one same used =
    used_up (list_of setup before phase) (heads before phase) thread one.rest (rw same used) one.next

same_in_list : (setup : Setup) (before : History) (phase other_phase thread other : ℕ) → IsNextOfList setup before phase thread
    → IsNextOfList setup before other_phase other → Same phase other_phase thread other
same_in_list setup before phase other_phase thread other one two =
    elim one.current [
      | inl here ↦ elim two.current [
        | inl there ↦ same_phase setup before phase other_phase thread other one two (here ∙ sym there)
        | inr there ↦ absurd (not_mixed setup before phase thread one here there.1)
      ]
      | inr here ↦ elim two.current [
        | inl there ↦ absurd (not_mixed setup before other_phase other two there here.1)
        | inr there ↦ same_phase setup before phase other_phase thread other one two (here.0 ∙ sym there.0)
      ]
    ]

-- who is due

-- the statuses of one thread
one_status : (state : State) (thread other : ℕ) (one two : Status) → thread ≡ other → (row_of state thread).status ≡ one → (row_of state other).status ≡ two → one ≡ two
one_status state thread other one two same first second = sym first ∙ ap (λ (n : ℕ). (row_of state n).status) same ∙ second

same_due : (setup : Setup) (before : History) (phase other_phase : ℕ) (who other : Due) → IsDue setup before phase who → IsDue setup before other_phase other
    → (phase ≡ other_phase) × (who ≡ other)
same_due setup before phase other_phase (due.Fresh thread) (due.Fresh n) one two =
    let same = same_in_list setup before phase other_phase thread n one.1 two.1 in
    (same.0, ap due.Fresh same.1)
same_due setup before phase other_phase (due.Fresh thread) (due.Woken n mutex) one two =
    let same = same_in_list setup before phase other_phase thread n one.1 two.1 in
    let status : Ready ≡ Woken mutex = one_status (present setup before) thread n Ready (Woken mutex) same.1 one.2 two.2 in
    cc
same_due setup before phase other_phase (due.Woken thread mutex) (due.Fresh n) one two =
    let same = same_in_list setup before phase other_phase thread n one.1 two.1 in
    let status : Woken mutex ≡ Ready = one_status (present setup before) thread n (Woken mutex) Ready same.1 one.2 two.2 in
    cc
same_due setup before phase other_phase (due.Woken thread mutex) (due.Woken n taken) one two =
    let same = same_in_list setup before phase other_phase thread n one.1 two.1 in
    let status : Woken mutex ≡ Woken taken = one_status (present setup before) thread n (Woken mutex) (Woken taken) same.1 one.2 two.2 in
    let mutex_same : mutex ≡ taken = cc status in
    (same.0, λ i. due.Woken (same.1 i) (mutex_same i))
same_due setup before phase other_phase (due.Keeper thread) (due.Keeper n) one two =
    let same : thread ≡ n = let somes = sym one.0 ∙ two.0 in cc in
    (one.1 ∙ sym two.1, ap due.Keeper same)
same_due setup before phase other_phase (due.Fresh thread) (due.Keeper n) one two = let mixed = sym one.0 ∙ two.0 in cc
same_due setup before phase other_phase (due.Keeper thread) (due.Fresh n) one two = let mixed = sym one.0 ∙ two.0 in cc
same_due setup before phase other_phase (due.Woken thread mutex) (due.Keeper n) one two = let mixed = sym one.0 ∙ two.0 in cc
same_due setup before phase other_phase (due.Keeper thread) (due.Woken n mutex) one two = let mixed = sym one.0 ∙ two.0 in cc

-- what it does on its copy
same_ran : (setup : Setup) (base : State) (phase : ℕ) (who : Due) (one other : PrivateRun who) → RunsPrivately setup base phase who one → RunsPrivately setup base phase who other → one ≡ other
same_ran setup base phase (due.Fresh thread) one other first second = one_end _ _ _ _ one other first second
same_ran setup base phase (due.Keeper thread) one other first second = one_end _ _ _ _ one other first second
same_ran setup base phase (due.Woken thread mutex) one other first second = refl

-- what a step is, by its phase and who is due
record Made (setup : Setup) (before : History) (step : Step) (phase : ℕ) (who : Due) : Type 0 where
  ran : PrivateRun who
  private : RunsPrivately setup (version setup before (base_of before phase who)) phase who ran
  is : step ≡ step_of (present setup before) (version setup before (base_of before phase who)) phase (base_of before phase who) who ran

made_so : (setup : Setup) (before : History) (step : Step) → (follows : Follows setup before step) → Made setup before step step.turn.phase follows.who
made_so setup before step follows =
    record {
      ran = follows.ran;
      private = subst (λ (number : ℕ). RunsPrivately setup (version setup before number) step.turn.phase follows.who follows.ran) follows.base follows.private_memory;
      is = follows.commit_then_call
          ∙ ap (λ (number : ℕ). step_of (present setup before) (version setup before number) step.turn.phase number follows.who follows.ran) follows.base;
    }

same_made : (setup : Setup) (before : History) (one other : Step) (phase : ℕ) (who : Due) → Made setup before one phase who → Made setup before other phase who → one ≡ other
same_made setup before one other phase who first second =
    let number : ℕ = base_of before phase who in
    let same = same_ran setup (version setup before number) phase who first.ran second.ran first.private second.private in
    first.is ∙ ap (λ (ran : PrivateRun who). step_of (present setup before) (version setup before number) phase number who ran) same ∙ sym second.is

pub one_step : (setup : Setup) (before : History) (one other : Step) → Follows setup before one → Follows setup before other → one ≡ other
one_step setup before one other first second =
    let same = same_due setup before one.turn.phase other.turn.phase first.who second.who first.order second.order in
    let made : Made setup before other one.turn.phase first.who =
    subst (λ (phase : ℕ). Made setup before other phase first.who) (sym same.0)
    (subst (λ (who : Due). Made setup before other other.turn.phase who) (sym same.1) (made_so setup before other second)) in
    same_made setup before one other one.turn.phase first.who (made_so setup before one first) made
