-- The commands that show the rows of an exploration that failed.
use Rattle.std.specs.Prelude.{◌≡◌, ℕ, Bool, true, false, ◌==◌, if◌then◌else◌, Option, Some, None, Ok, List, [], ◌∷◌, ◌++◌}
use Rattle.std.specs.Option.{option_map_or}
use Rattle.explored_runs.specs.Failing.{fails}
use Rattle.explored_runs.specs.declared.row.Row.{Row}
use Rattle.explored_text.specs.Commands.{command_text, difference_text, no_phase_text}
use Rattle.explored_text.specs.declared.setting.Setting.{Setting}
use Rattle.small_schedules.specs.Small.{MakesSmall}
use Rattle.small_schedules.specs.declared.phase_difference.PhaseDifference.{PhaseDifference}
use Rattle.small_schedules.specs.declared.small.Small.{Small}
use Rattle.token.specs.declared.outcome.RunOutcome.{RunOutcome}
use Rattle.command_line.specs.declared.exploration.Exploration.{Exploration}

-- what the runs of an exploration share
abbrev pub setting_of : Exploration → Setting
setting_of exploration =
    record { file = exploration.file; input = exploration.input; bound = exploration.config.bound; quantum = exploration.config.quantum }

-- in what a phase differs, if there is one
abbrev pub differing_text : Option PhaseDifference → List ℕ
differing_text None = []
differing_text (Some difference) = difference_text difference.phase difference.drawn.items difference.plain.items

-- in what the last phase of a small schedule differs, or that no phase is shuffled
abbrev pub phase_text : Small → List ℕ
phase_text small = if small.shuffle.last == 0 then no_phase_text else differing_text small.difference

-- the command of a small schedule by which a run ends so, if there is one
abbrev pub small_text : Exploration → RunOutcome → Option Small → List ℕ
small_text exploration ends None = []
small_text exploration ends (Some small) = command_text (setting_of exploration) ends small.shuffle ++ phase_text small

-- the text of a row that failed, or of one that didn't: the number of its first run was made small
abbrev pub IsShownIf : (failed : Bool) → Exploration → (elf input : List ℕ) → Row → (text : List ℕ) → Type 0
IsShownIf false exploration elf input row text = text ≡ []
IsShownIf true exploration elf input row text =
    (small : Option Small) × MakesSmall elf input exploration.config row.first (Ok small) × (text ≡ small_text exploration row.ending.outcome small)

abbrev pub IsShown : Exploration → (elf input : List ℕ) → Row → (text : List ℕ) → Type 0
IsShown exploration elf input row text = IsShownIf (fails row.ending.outcome) exploration elf input row text

-- the texts of rows, one after the other
abbrev pub AreShown : Exploration → (elf input : List ℕ) → List Row → (text : List ℕ) → Type 0
AreShown exploration elf input [] text = text ≡ []
AreShown exploration elf input (row ∷ rows) text =
    (first : List ℕ) × (rest : List ℕ) × IsShown exploration elf input row first × AreShown exploration elf input rows rest × (text ≡ first ++ rest)
