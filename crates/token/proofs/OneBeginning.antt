-- A phase begins with one version, wherever in it legal histories of one setup end.
use Rattle.std.proofs.Common.{◌≡◌, ◌⊎◌, ℕ, ◌≤◌, Bool, true, false, List, [], ◌∷◌, ◌++◌, refl, ap, sym, ◌∙◌, inl, inr, arith, subst}
use Rattle.call_table.specs.State.{State}
use Rattle.token.specs.Setup.{Setup}
use Rattle.token.specs.Turns.{Step}
use Rattle.token.specs.History.{History, IsNextPhase, IsPrefix, first_version, heads, keeps, list_of, phase_of, version}
use Rattle.token.specs.Legal.{Follows, IsLegal}
use Rattle.token.specs.Point.{Point}
use Rattle.token.specs.Serial.{StandsAfter}
use Rattle.token.proofs.Dues.{IsTurnOf, turn_of_step}
use Rattle.token.proofs.OneHistory.{one_is_prefix}
use Rattle.token.proofs.OneStep.{used_up}
use Rattle.token.proofs.Versions.{phase_of_next, phase_state_kept}

-- no turn is of a phase whose list is used up and whose last thread doesn't keep the token
not_of : (setup : Setup) (before : History) (phase thread : ℕ) (keeper : Bool) → keeper ≡ false → list_of setup before (phase_of before) ≡ heads before (phase_of before)
    → IsTurnOf keeper setup before phase thread → phase ≡ phase_of before → ⊥
not_of setup before phase thread true free used turn same = cc
not_of setup before phase thread false free used turn same =
    used_up (list_of setup before phase) (heads before phase) thread turn.rest
    (subst (λ (p : ℕ). list_of setup before p ≡ heads before p) (sym same) used) turn.next

-- a step that follows isn't of an earlier phase than the next
not_earlier : (setup : Setup) (before : History) (step : Step) (phase : ℕ) → IsNextPhase setup before phase → Follows setup before step → phase ≤ step.turn.phase
not_earlier setup before step phase next follows =
    let grows = phase_of_next setup before step follows in
    elim next [
      | inl here ↦ omega (arith, here, grows)
      | inr there ↦ elim grows [
        | inl same ↦ absurd (not_of setup before step.turn.phase step.turn.thread (keeps before) there.1 there.2 (turn_of_step setup before step follows) same)
        | inr later ↦ omega (arith, there.0, later)
      ]
    ]

-- once a turn of a phase or of a later one is done, no step is of an earlier one
not_earlier_then : (setup : Setup) (before : History) (step : Step) (phase : ℕ) → phase ≤ phase_of before → Follows setup before step → phase ≤ step.turn.phase
not_earlier_then setup before step phase within follows = let grows = phase_of_next setup before step follows in omega (arith, grows)

-- what a longer history says of the phase
record Longer (setup : Setup) (one other : History) (phase : ℕ) : Type 0 where
  begins : version setup one (first_version one phase) ≡ version setup other (first_version other phase)
  later : (other ≡ one) ⊎ (phase ≤ phase_of other)

phase_of_last : (step : Step) (before : History) → phase_of (step ∷ before) ≡ step.turn.phase
unfolding phase_of
phase_of_last step before = refl

longer_step : (setup : Setup) (one before : History) (step : Step) (phase : ℕ) → IsNextPhase setup one phase → Follows setup before step → Longer setup one before phase
    → Longer setup one (step ∷ before) phase
longer_step setup one before step phase next follows rest =
    let within : phase ≤ step.turn.phase =
    elim rest.later [
      | inl same ↦ not_earlier setup one step phase next (subst (λ (h : History). Follows setup h step) same follows)
      | inr later ↦ not_earlier_then setup before step phase later follows
    ] in
    record {
      begins = rest.begins ∙ sym (phase_state_kept setup before step phase within);
      later = inr (subst (λ (n : ℕ). phase ≤ n) (sym (phase_of_last step before)) within);
    }

longer : (setup : Setup) (one : History) (phase : ℕ) (newer : List Step) → IsNextPhase setup one phase → IsLegal setup (newer ++ one) → Longer setup one (newer ++ one) phase
unfolding IsLegal
longer setup one phase [] next legal = record { begins = refl; later = inl refl }
longer setup one phase (step ∷ newer) next legal = longer_step setup one (newer ++ one) step phase next legal.0 (longer setup one phase newer next legal.1)

from_prefix : (setup : Setup) (one other : History) (phase : ℕ) → IsNextPhase setup one phase → IsLegal setup other → IsPrefix one other
    → version setup one (first_version one phase) ≡ version setup other (first_version other phase)
from_prefix setup one other phase next legal prefix =
    let long : Longer setup one (prefix.0 ++ one) phase = longer setup one phase prefix.0 next (subst (λ (h : History). IsLegal setup h) prefix.1 legal) in
    long.begins ∙ ap (λ (h : History). version setup h (first_version h phase)) (sym prefix.1)

pub one_beginning : (setup : Setup) (one other : History) (phase : ℕ) → IsLegal setup one → IsLegal setup other → IsNextPhase setup one phase → IsNextPhase setup other phase
    → version setup one (first_version one phase) ≡ version setup other (first_version other phase)
one_beginning setup one other phase first second next other_next =
    elim (one_is_prefix setup one other first second) [
      | inl prefix ↦ from_prefix setup one other phase next second prefix
      | inr prefix ↦ sym (from_prefix setup other one phase other_next first prefix)
    ]

-- the version with which a point's phase began
begun_with : (point : Point) (history : History) → StandsAfter point history
    → ((version point.setup history (first_version history point.phase)).memory ≡ point.base) × ((version point.setup history (first_version history point.phase)).threads ≡ point.base_threads)
begun_with point history stands =
    let first : version point.setup history (first_version history point.phase) ≡ version point.setup history point.first = ap (version point.setup history) stands.first in
    (ap (λ (state : State). state.memory) first ∙ stands.base, ap (λ (state : State). state.threads) first ∙ stands.base_threads)

-- Two runs of one setup that stand in one phase have the same base, memory and threads.
pub one_base : (one other : Point) (history other_history : History) → StandsAfter one history → StandsAfter other other_history → one.setup ≡ other.setup → one.phase ≡ other.phase
    → (one.base ≡ other.base) × (one.base_threads ≡ other.base_threads)
one_base one other history other_history stands other_stands setup phase =
    let legal : IsLegal one.setup other_history = subst (λ (s : Setup). IsLegal s other_history) (sym setup) other_stands.legal in
    let next : IsNextPhase one.setup other_history one.phase =
    subst (λ (s : Setup). IsNextPhase s other_history one.phase) (sym setup) (subst (λ (p : ℕ). IsNextPhase other.setup other_history p) (sym phase) other_stands.phase) in
    let same = one_beginning one.setup history other_history one.phase stands.legal legal stands.phase next in
    let there : version one.setup other_history (first_version other_history one.phase) ≡ version other.setup other_history (first_version other_history other.phase) =
    ap (λ (s : Setup). version s other_history (first_version other_history one.phase)) setup
    ∙ ap (λ (p : ℕ). version other.setup other_history (first_version other_history p)) phase in
    let mine = begun_with one history stands in
    let theirs = begun_with other other_history other_stands in (
      sym mine.0 ∙ ap (λ (state : State). state.memory) (same ∙ there) ∙ theirs.0,
      sym mine.1 ∙ ap (λ (state : State). state.threads) (same ∙ there) ∙ theirs.1,
    )
