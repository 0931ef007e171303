-- The findings of a run as text.
use Rattle.std.specs.Prelude.{◌≡◌, Bool, true, false, List, [], ℕ}
use Rattle.observed_run.specs.Runs.{AreFindingsOf}
use Rattle.races.specs.FindingTexts.{text_of}
use Rattle.races.specs.declared.finding.Finding.{Finding}
use Rattle.symbols.specs.Symbol.{SymbolLists}
use Rattle.token.specs.Setup.{Setup}

-- the findings that a run answers that is given this: those of all its turns if they were looked for, and else none
abbrev pub AreFound : (observes : Bool) → Setup → List Finding → Type 0
AreFound true setup findings = AreFindingsOf setup findings
AreFound false setup findings = findings ≡ []

-- the text of the findings of a run that is given this, with these symbols
abbrev pub IsFindingText : SymbolLists → Setup → List ℕ → Type 0
IsFindingText symbols setup text = (findings : List Finding) × AreFindingsOf setup findings × (text ≡ text_of symbols findings)
