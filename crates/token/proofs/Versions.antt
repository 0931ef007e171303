-- The versions of a history, and what a further step leaves of them.
use Rattle.std.proofs.Common.{◌≡◌, ◌⊎◌, ℕ, suc, ◌<◌, ◌≤◌, Bool, true, false, not, ◌==◌, nat_lt, if◌then◌else◌, [], ◌∷◌, ◌++◌, length, refl, ap, ◌∙◌, inl, inr, arith}
use Rattle.std.proofs.lemmas.Bool.{lt-ltb, le-ltb, eq-eqb, ne_eqb, and_from, and_left, and_right, not_from_true, not_from_false}
use Rattle.token.specs.Setup.{Setup, list_in}
use Rattle.token.specs.Turns.{Step}
use Rattle.token.specs.Legal.{Follows, IsLegal}
use Rattle.token.proofs.Dues.{IsTurnOf, turn_of_step}
use Rattle.token.specs.History.{History, present, version, phase_of, first_version, list_of, heads, keeps}

-- the last version has the number of all turns
pub version_last : (setup : Setup) (history : History) → version setup history (length history) ≡ present setup history
unfolding version present
version_last setup [] = refl
version_last setup (step ∷ before) = rw (eq-eqb (length (step ∷ before)) (suc (length before)) refl) refl

-- an older version is as it was
pub version_older : (setup : Setup) (before : History) (step : Step) (number : ℕ) → number ≤ length before → version setup (step ∷ before) number ≡ version setup before number
unfolding version
version_older setup before step number within =
    rw (ne_eqb number (suc (length before)) (λ same. omega arith)) refl

-- a step of this phase or of a later one isn't before the phase
pub first_version_kept : (before : History) (step : Step) (phase : ℕ) → phase ≤ step.turn.phase → first_version (step ∷ before) phase ≡ first_version before phase
unfolding first_version
first_version_kept before step phase within = rw (le-ltb step.turn.phase phase within) refl

-- a step of an earlier phase is before the phase
pub first_version_more : (before : History) (step : Step) (phase : ℕ) → step.turn.phase < phase → first_version (step ∷ before) phase ≡ suc (first_version before phase)
unfolding first_version
first_version_more before step phase earlier = rw (lt-ltb step.turn.phase phase earlier) refl

-- a phase begins with a version that there is
pub first_version_within : (history : History) (phase : ℕ) → first_version history phase ≤ length history
unfolding first_version
first_version_within [] phase = omega arith
first_version_within (step ∷ before) phase =
    let rest = first_version_within before phase in
    elim (nat_lt step.turn.phase phase) as (λ earlier. (if earlier then suc (first_version before phase) else first_version before phase) ≤ suc (length before)) [
      | true ↦ omega arith
      | false ↦ omega arith
    ]

next_phase : (setup : Setup) (before : History) (phase thread : ℕ) → (keeper : Bool) → IsTurnOf keeper setup before phase thread → (phase ≡ phase_of before) ⊎ (phase ≡ suc (phase_of before))
next_phase setup before phase thread true due = inl due.0
next_phase setup before phase thread false due = elim due.current [ inl here ↦ inl here | inr there ↦ inr there.0 ]

-- a step is of the last phase or of the one after it
pub phase_of_next : (setup : Setup) (before : History) (step : Step) → Follows setup before step → (step.turn.phase ≡ phase_of before) ⊎ (step.turn.phase ≡ suc (phase_of before))
phase_of_next setup before step follows = next_phase setup before step.turn.phase step.turn.thread (keeps before) (turn_of_step setup before step follows)

-- a phase after the last one begins with the last version
pub first_version_next : (setup : Setup) (history : History) (phase : ℕ) → IsLegal setup history → phase_of history < phase → first_version history phase ≡ length history
unfolding IsLegal first_version phase_of
first_version_next setup [] phase legal later = refl
first_version_next setup (step ∷ before) phase legal later =
    let grows = phase_of_next setup before step legal.0 in
    let rest = first_version_next setup before phase legal.1 (omega arith) in
    rw (lt-ltb step.turn.phase phase later) (ap suc rest)

-- a phase that a step doesn't come before begins with the version with which it began
pub phase_state_kept : (setup : Setup) (before : History) (step : Step) (phase : ℕ) → phase ≤ step.turn.phase
    → version setup (step ∷ before) (first_version (step ∷ before) phase) ≡ version setup before (first_version before phase)
phase_state_kept setup before step phase within =
    ap (version setup (step ∷ before)) (first_version_kept before step phase within)
    ∙ version_older setup before step (first_version before phase) (first_version_within before phase)

-- and has the list that it had
pub list_of_kept : (setup : Setup) (before : History) (step : Step) (phase : ℕ) → phase ≤ step.turn.phase → list_of setup (step ∷ before) phase ≡ list_of setup before phase
unfolding list_of
list_of_kept setup before step phase within = ap (λ state. list_in setup phase state.threads) (phase_state_kept setup before step phase within)

-- a phase after the last one has the list of the last version
pub list_of_next : (setup : Setup) (history : History) (phase : ℕ) → IsLegal setup history → phase_of history < phase → list_of setup history phase ≡ list_in setup phase (present setup history).threads
unfolding list_of
list_of_next setup history phase legal later =
    ap (λ number. list_in setup phase (version setup history number).threads) (first_version_next setup history phase legal later)
    ∙ ap (λ state. list_in setup phase state.threads) (version_last setup history)

-- a keeper's turn adds no head
pub heads_keeper : (before : History) (step : Step) (phase : ℕ) → keeps before ≡ true → heads (step ∷ before) phase ≡ heads before phase
unfolding heads
heads_keeper before step phase keeper =
    let none = and_right (step.turn.phase == phase) (not (keeps before)) (not_from_true (keeps before) keeper) in
    rw none refl

-- a turn of another phase adds no head
pub heads_other : (before : History) (step : Step) (phase : ℕ) → (step.turn.phase ≡ phase → ⊥) → heads (step ∷ before) phase ≡ heads before phase
unfolding heads
heads_other before step phase other =
    let none = and_left (step.turn.phase == phase) (not (keeps before)) (ne_eqb step.turn.phase phase other) in
    rw none refl

-- the next of a phase's list is a head of it
pub heads_next : (before : History) (step : Step) → keeps before ≡ false → heads (step ∷ before) step.turn.phase ≡ heads before step.turn.phase ++ step.turn.thread ∷ []
unfolding heads
heads_next before step next =
    let one = and_from (step.turn.phase == step.turn.phase) (not (keeps before)) (eq-eqb step.turn.phase step.turn.phase refl) (not_from_false (keeps before) next) in
    rw one refl

-- a phase after the last one has no heads yet
pub heads_none : (setup : Setup) (history : History) (phase : ℕ) → IsLegal setup history → phase_of history < phase → heads history phase ≡ []
unfolding IsLegal heads phase_of
heads_none setup [] phase legal later = refl
heads_none setup (step ∷ before) phase legal later =
    let grows = phase_of_next setup before step legal.0 in
    heads_other before step phase (λ same. omega arith) ∙ heads_none setup before phase legal.1 (omega arith)

-- the first turn of a phase has its first head
pub heads_first : (setup : Setup) (before : History) (step : Step) → IsLegal setup before → keeps before ≡ false → phase_of before < step.turn.phase
    → heads (step ∷ before) step.turn.phase ≡ step.turn.thread ∷ []
heads_first setup before step legal next later =
    heads_next before step next ∙ ap (λ prefix. prefix ++ step.turn.thread ∷ []) (heads_none setup before step.turn.phase legal later)

-- the first turn of a phase leaves its first version the last one before it
pub first_version_first : (setup : Setup) (before : History) (step : Step) → IsLegal setup before → phase_of before < step.turn.phase
    → first_version (step ∷ before) step.turn.phase ≡ length before
first_version_first setup before step legal later =
    first_version_kept before step step.turn.phase (omega arith) ∙ first_version_next setup before step.turn.phase legal later
