-- A turn that is recorded leaves a run recorded.
use Rattle.std.proofs.Common.{◌≡◌, Option, Some, None, List, [], ◌∷◌, ◌++◌, refl, ap, sym, ◌∙◌, subst}
use Rattle.token.specs.Change.{Change, addresses_by, change_by}
use Rattle.token.specs.History.{History, change_of, changes_of, turns_of}
use Rattle.token.specs.Point.{Point, moved, patch_of, ran_step, step_at, woken_step}
use Rattle.token.specs.RunInTurn.{point_of}
use Rattle.token.specs.Serial.{HasRecorded, Invariants, IsLawful, IsNeeded, IsRecorded, StandsAfter}
use Rattle.token.specs.Turns.{Step, wake_step}
use Rattle.token.specs.declared.run_in_turn.RunInTurn.{RunInTurn}
use Rattle.segment.specs.declared.segment_end.SegmentEnd.{SegmentEnd}
use Rattle.token.specs.declared.turn.Turn.{Turn}
use Rattle.token.proofs.NextStep.{turn_stands}

-- the change of the step that a turn makes is that of its record and its patch
change_made : (point : Point) (end : Option SegmentEnd) → change_of (step_at point end) ≡ change_by (step_at point end).turn (addresses_by (patch_of end))
unfolding ran_step woken_step wake_step
change_made point None = refl
change_made point (Some end) = refl

turns_longer : (history : History) (step : Step) → turns_of (step ∷ history) ≡ turns_of history ++ step.turn ∷ []
unfolding turns_of
turns_longer history step = refl

changes_longer : (history : History) (step : Step) → changes_of (step ∷ history) ≡ changes_of history ++ change_of step ∷ []
unfolding changes_of
changes_longer history step = refl

pub no_turns : turns_of [] ≡ []
unfolding turns_of
no_turns = refl

pub no_changes : changes_of [] ≡ []
unfolding changes_of
no_changes = refl

-- a turn that was done and recorded
pub recorded_after : {R : Type 0} → (records : R → List Turn → List Change → Type 0) (recorder : R) (old new : RunInTurn) (end : Option SegmentEnd) (turn : Turn) (history : History)
    → StandsAfter (point_of old) history → Invariants (point_of old) → IsNeeded old end → turn ≡ (step_at (point_of old) end).turn
    → point_of new ≡ moved (point_of old) (step_at (point_of old) end)
    → records recorder (turns_of history ++ turn ∷ []) (changes_of history ++ change_by turn (addresses_by (patch_of end)) ∷ []) → IsRecorded records recorder new
recorded_after records recorder old new end turn history after holds needed turn_is made recorded =
    let step : Step = step_at (point_of old) end in
    let stands = turn_stands (point_of old) history end after holds needed in
    let turns : turns_of history ++ turn ∷ [] ≡ turns_of (step ∷ history) = ap (λ (turn : Turn). turns_of history ++ turn ∷ []) turn_is ∙ sym (turns_longer history step) in
    let changes : changes_of history ++ change_by turn (addresses_by (patch_of end)) ∷ [] ≡ changes_of (step ∷ history) =
    ap (λ (turn : Turn). changes_of history ++ change_by turn (addresses_by (patch_of end)) ∷ []) turn_is
    ∙ ap (λ (change : Change). changes_of history ++ change ∷ []) (sym (change_made (point_of old) end)) ∙ sym (changes_longer history step) in (
      step ∷ history,
      subst (λ (point : Point). StandsAfter point (step ∷ history)) (sym made) stands.0,
      subst Invariants (sym made) stands.1,
      subst (λ (turns : List Turn). records recorder turns (changes_of (step ∷ history))) turns
          (subst (λ (changes : List Change). records recorder (turns_of history ++ turn ∷ []) changes) changes recorded),
    )

-- a turn that wasn't done
pub recorded_before : {R : Type 0} → (records : R → List Turn → List Change → Type 0) (recorder : R) (old new : RunInTurn) (history : History)
    → StandsAfter (point_of old) history → Invariants (point_of old) → point_of new ≡ point_of old → records recorder (turns_of history) (changes_of history) → IsRecorded records recorder new
recorded_before records recorder old new history after holds kept recorded =
    (history, subst (λ (point : Point). StandsAfter point history) (sym kept) after, subst Invariants (sym kept) holds, recorded)

pub lawful : {R : Type 0} → (records : R → List Turn → List Change → Type 0) (recorder : R) (run : RunInTurn) → IsRecorded records recorder run → IsLawful run
lawful records recorder run recorded = (recorded.0, recorded.1, recorded.2)

pub told : {R : Type 0} → (records : R → List Turn → List Change → Type 0) (recorder : R) (run : RunInTurn) → IsRecorded records recorder run → HasRecorded records recorder run
told records recorder run recorded = (recorded.0, recorded.1, recorded.3)
