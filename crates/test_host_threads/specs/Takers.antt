-- What a taker of turns is to callers.
use Rattle.std.specs.Prelude.{List}
use Rattle.paged_memory.specs.declared.snapshot.Snapshot.{Snapshot}
use Rattle.segment.specs.declared.segment.Segment.{Segment}
use Rattle.parallel_phase.specs.declared.taker_stage.TakerStage.{TakerStage}

-- the jobs that it takes, the memory that they begin with, and how far it is
pub record TakerState : Type 0 where
  pub jobs : List Segment
  pub base : Snapshot
  pub stage : TakerStage
