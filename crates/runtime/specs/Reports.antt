-- What a report says.
use Rattle.std.specs.Prelude.{◌≡◌, Some}
use Rattle.paged_memory.specs.Snapshot.{cells_of}
use Rattle.token.specs.Setup.{Setup}
use Rattle.token.specs.History.{History, outcome, present, turns_of, changes_of}
use Rattle.sharing_report.specs.Sharing.{IsSharing}
use Rattle.runtime.specs.Answer.{HasAnswer}
use Rattle.runtime.specs.declared.report.Report.{Report}

-- The report is the answer of a history: how it ends, the output and the memory, at each address, of its last version, its turns, and the
-- sharing of what they changed.
pub record IsAnswerOf (setup : Setup) (report : Report) (history : History) : Type 0 where
  pub ends : outcome setup history ≡ Some report.outcome
  pub output : (present setup history).output ≡ report.output.items
  pub memory : (present setup history).memory ≡ cells_of report.memory
  pub trace : turns_of history ≡ report.trace.items
  pub sharing : IsSharing (changes_of history) report.sharing.items

-- There is a complete history whose answer the report is, and it is the answer of every complete history.
abbrev pub Reports : Setup → Report → Type 0
Reports setup report = HasAnswer setup (IsAnswerOf setup report)
