-- A taker of the turns of a phase of a run.
use Rattle.std.specs.Prelude.{◌≡◌, ℕ, List}
use Rattle.paged_memory.specs.Snapshot.{cells_of}
use Rattle.paged_memory.specs.declared.snapshot.Snapshot.{Snapshot}
use Rattle.segment.specs.declared.segment.Segment.{Segment}
use Rattle.parallel_phase.specs.declared.taker_stage.TakerStage.{TakerStage}
use Rattle.token.specs.Point.{Point}
use Rattle.token.specs.Setup.{Setup}
use Rattle.worker_pool.specs.Jobs.{AreJobsIn}

-- the jobs whose turns it takes, the memory that each begins with, and how far it is
pub record TakerState : Type 0 where
  pub jobs : List Segment
  pub base : Snapshot
  pub stage : TakerStage

-- the run is the one that is meant, and these are the jobs and the memory of the phase with this number
pub record IsOfPhase (setup : Setup) (point : Point) (number : ℕ) (threads : List ℕ) (jobs : List Segment) (base : Snapshot) : Type 0 where
  pub setup_is : point.setup ≡ setup
  pub jobs_are : AreJobsIn setup number threads jobs (cells_of base)
