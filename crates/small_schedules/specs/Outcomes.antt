-- How the run of what is given ends.
use Rattle.std.specs.Prelude.{◌≡◌, ◌≢◌, Bool, true, false, Some}
use Rattle.runtime.specs.Answer.{HasAnswer}
use Rattle.token.specs.History.{outcome}
use Rattle.token.specs.Setup.{Setup}
use Rattle.token.specs.declared.outcome.RunOutcome.{RunOutcome}

-- each complete history of it ends so, or each ends in another way
abbrev pub EndsOrNot : Setup → RunOutcome → Bool → Type 0
EndsOrNot setup ends true = HasAnswer setup (λ history. outcome setup history ≡ Some ends)
EndsOrNot setup ends false = HasAnswer setup (λ history. outcome setup history ≢ Some ends)
