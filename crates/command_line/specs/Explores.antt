-- What an exploration answers and what it prints, told by the files' content and the standard streams as far as these are known.
use Rattle.std.specs.Prelude.{◌≡◌, ◌⊎◌, ℕ, Bool, true, false, ◌&&◌, ◌||◌, nat_lt, if◌then◌else◌, Option, Result, Ok, Err, List, ◌++◌, Vec, length}
use Rattle.std.specs.List.{list_any}
use Rattle.std.specs.Io.KnownBytes.{Appends}
use Rattle.std.specs.declared.alloc.Global.{Global}
use Rattle.output_files.specs.Content.{Content}
use Rattle.runtime.specs.Run.{IsUnopenedBy}
use Rattle.shuffled_phases.specs.declared.config.Config.{Config}
use Rattle.runtime.specs.declared.open_fault.OpenFault.{OpenFault}
use Rattle.explored_runs.specs.Explored as runs
use Rattle.explored_runs.specs.Failing.{fails}
use Rattle.explored_runs.specs.declared.row.Row.{Row}
use Rattle.explored_text.specs.Tables.{table_text}
use Rattle.command_requests.specs.Status.{failure_status}
use Rattle.command_requests.specs.declared.failure.Failure.{Failure}
use Rattle.command_requests.specs.declared.failure.Failure.TheVariants.{CannotWrite}
use Rattle.command_requests.specs.declared.target.Target.TheVariants.{StandardOutput}
use Rattle.command_run.specs.Failure.{failure_of_fault}
use Rattle.command_line.specs.Failures.{AreShown}
use Rattle.command_line.specs.Given.{AreGiven, GivenBytes, IsUngiven}
use Rattle.command_line.specs.declared.exploration.Exploration.{Exploration}

-- an exploration that is asked for, over files with this content, on what there is to read of standard input
pub record ExploreRequest : Type 0 where
  pub exploration : Exploration
  pub files : Content
  pub input : Option (List ℕ)

abbrev pub exploration_of : Exploration → Content → Option (List ℕ) → ExploreRequest
exploration_of exploration files input = record { exploration = exploration; files = files; input = input }

-- a run failed, or there is a second row where all are to be the same
abbrev pub has_failed : (same : Bool) → List Row → Bool
has_failed same rows = list_any (λ row. fails row.ending.outcome) rows || (same && nat_lt 1 (length rows))

-- The runs of a file on an input were explored: the text is that of their rows, and below it that of the rows that failed.
pub record IsExplored (exploration : Exploration) (elf input text : List ℕ) (failed : Bool) : Type 0 where
  pub rows : Vec Row Global
  pub are_rows : runs.Explores elf input exploration.config exploration.range.from exploration.range.count (Ok rows)
  pub failures : List ℕ
  pub are_failures : AreShown exploration elf input rows.items failures
  pub text_is : text ≡ table_text exploration.range.count rows.items ++ failures
  pub failed_is : failed ≡ has_failed exploration.same rows.items

-- the file and the input were read, and such are they
abbrev pub OnGiven : ExploreRequest → ((elf input : List ℕ) → Type 0) → Type 0
OnGiven request Is =
    (given : GivenBytes) × AreGiven (request.files request.exploration.file.now) request.input given × Is given.elf given.input

-- why nothing was explored: the file and the input weren't read, or they are refused, or memory ran out
abbrev pub IsUnexplored : ExploreRequest → Failure → Type 0
IsUnexplored request failure =
    IsUngiven request.exploration.file.now request.input failure
    ⊎ OnGiven request (λ elf input. (fault : OpenFault) × (failure ≡ failure_of_fault fault) × IsUnopenedBy elf input request.exploration.config fault)

-- What an exploration answers: whether it failed, with its text after what standard output held. Or nothing was explored and nothing printed;
-- or the text could not be printed.
abbrev pub Explores : ExploreRequest → (output output' : Option (List ℕ)) → Result Bool Failure → Type 0
Explores request output output' (Ok failed) =
    (text : List ℕ) × OnGiven request (λ elf input. IsExplored request.exploration elf input text failed) × Appends output output' text
Explores request output output' (Err failure) =
    (IsUnexplored request failure × (output' ≡ output))
    ⊎ ((failure ≡ CannotWrite StandardOutput) × ((text : List ℕ) × (failed : Bool) × OnGiven request (λ elf input. IsExplored request.exploration elf input text failed)))

-- the status after an exploration
abbrev pub explore_status : Result Bool Failure → ℕ
explore_status (Ok failed) = if failed then 1 else 0
explore_status (Err failure) = failure_status failure
