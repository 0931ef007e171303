-- Whether the run of what is given ends so, by its end.
use Rattle.std.proofs.Common.{◌≡◌, ◌≢◌, ◌∙◌, Bool, true, false, Some, ap, refl, sym}
use Rattle.explored_runs.specs.Runs.{HasEnd}
use Rattle.runtime.proofs.OneReport.{answer_so}
use Rattle.runtime.specs.Recorded.{IsRecordedEnd}
use Rattle.runtime.specs.declared.run_end.RunEnd.{RunEnd}
use Rattle.token.specs.History.{outcome}
use Rattle.token.specs.Setup.{Setup}
use Rattle.token.specs.declared.outcome.RunOutcome.{RunOutcome}
use Rattle.small_schedules.specs.Outcomes.{EndsOrNot}

ends_so : (setup : Setup) (end : RunEnd) (ends : RunOutcome) → HasEnd setup end → end.outcome ≡ ends → EndsOrNot setup ends true
ends_so setup end ends has is =
    answer_so setup (IsRecordedEnd {R = Unit {0}} (λ _ turns changes. Unit {0}) setup end tt) (λ history. outcome setup history ≡ Some ends)
    (λ history it. it.ends ∙ ap Some is) has

ends_otherwise : (setup : Setup) (end : RunEnd) (ends : RunOutcome) → HasEnd setup end → end.outcome ≢ ends → EndsOrNot setup ends false
ends_otherwise setup end ends has other =
    answer_so setup (IsRecordedEnd {R = Unit {0}} (λ _ turns changes. Unit {0}) setup end tt) (λ history. outcome setup history ≢ Some ends)
    (λ history it same. other (let both : Some end.outcome ≡ Some ends = sym it.ends ∙ same in cc both)) has

pub ends_or_not : (setup : Setup) (end : RunEnd) (ends : RunOutcome) (same : Bool) → HasEnd setup end → (same ≡ true → end.outcome ≡ ends)
    → (same ≡ false → end.outcome ≢ ends) → EndsOrNot setup ends same
ends_or_not setup end ends true has so otherwise = ends_so setup end ends has (so refl)
ends_or_not setup end ends false has so otherwise = ends_otherwise setup end ends has (otherwise refl)
