-- What making a number small comes to.
use Rattle.std.specs.Prelude.{◌≡◌, ℕ, true, false, Option, Some, None, Result, Ok, Err, List}
use Rattle.elf32_reader.specs.LoadImage.{LoadImage}
use Rattle.elf32_reader.specs.Segments.{image_of}
use Rattle.explored_runs.specs.Failing.{fails}
use Rattle.explored_runs.specs.Runs.{setup_by, whole}
use Rattle.runtime.specs.Run.{IsAccepted, IsUnopenedBy}
use Rattle.shuffled_phases.specs.declared.config.Config.{Config}
use Rattle.runtime.specs.declared.open_fault.OpenFault.{OpenFault}
use Rattle.token.specs.declared.outcome.RunOutcome.{RunOutcome}
use Rattle.small_schedules.specs.Differences.{IsDifference}
use Rattle.small_schedules.specs.Outcomes.{EndsOrNot}
use Rattle.small_schedules.specs.Searches.{IsSmall, Telling}
use Rattle.small_schedules.specs.declared.small.Small.{Small}

-- whether the run of a schedule ends so
abbrev pub ending_so : LoadImage → (input : List ℕ) → Config → RunOutcome → Telling
ending_so image input config ends shuffle = EndsOrNot (setup_by image input config shuffle) ends

-- The run of the number ends so, and so does that of the small schedule, but not with one phase fewer at the end. The phase's difference is
-- that of the small schedule.
pub record IsMadeSmall (image : LoadImage) (input : List ℕ) (config : Config) (number : ℕ) (ends : RunOutcome) (small : Small) : Type 0 where
  pub failing : fails ends ≡ true
  pub whole_ends : ending_so image input config ends (whole number) true
  pub is_small : IsSmall (ending_so image input config ends) number small.shuffle
  pub difference : IsDifference (setup_by image input config small.shuffle) small.shuffle.last small.difference

-- a small schedule, or none if the run of the number doesn't fail
abbrev pub IsSmallOf : LoadImage → (input : List ℕ) → Config → (number : ℕ) → Option Small → Type 0
IsSmallOf image input config number (Some small) = (ends : RunOutcome) × IsMadeSmall image input config number ends small
IsSmallOf image input config number None =
    (ends : RunOutcome) × (fails ends ≡ false) × ending_so image input config ends (whole number) true

-- What is answered of a file. Or it is refused as a run would be, or memory ran out.
abbrev pub MakesSmall : (elf input : List ℕ) → Config → (number : ℕ) → Result (Option Small) OpenFault → Type 0
MakesSmall elf input config number (Ok small) = IsAccepted elf input config × IsSmallOf (image_of elf) input config number small
MakesSmall elf input config number (Err fault) = IsUnopenedBy elf input config fault
