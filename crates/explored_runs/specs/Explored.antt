-- What an exploration answers.
use Rattle.std.specs.Prelude.{ℕ, List, Result, Vec, Ok, Err}
use Rattle.std.specs.declared.alloc.Global.{Global}
use Rattle.elf32_reader.specs.Segments.{image_of}
use Rattle.runtime.specs.Run.{IsAccepted, IsUnopenedBy}
use Rattle.shuffled_phases.specs.declared.config.Config.{Config}
use Rattle.runtime.specs.declared.open_fault.OpenFault.{OpenFault}
use Rattle.explored_runs.specs.Rows.{AreRowsOf}
use Rattle.explored_runs.specs.Runs.{IsRun}
use Rattle.explored_runs.specs.declared.row.Row.{Row}

-- What an exploration answers: the rows of the runs of a range of numbers. Neither the number of host threads nor what is told of the
-- progress is in it. Or it is refused as a run would be, or memory ran out.
abbrev pub Explores : (elf input : List ℕ) → Config → (from runs : ℕ) → Result (Vec Row Global) OpenFault → Type 0
Explores elf input config from runs (Ok rows) = IsAccepted elf input config × AreRowsOf (IsRun (image_of elf) input config) from runs rows.items
Explores elf input config from runs (Err fault) = IsUnopenedBy elf input config fault
