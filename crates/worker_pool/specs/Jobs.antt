-- A phase of a run as its jobs are shared out, and the caller's host threads.
use Rattle.std.specs.Prelude.{◌≡◌, ℕ, List, map}
use Rattle.guest_memory.specs.Memory.{Memory}
use Rattle.segment.specs.declared.segment.Segment.{Segment}
use Rattle.thread_table.specs.declared.thread.Thread.{Thread}
use Rattle.token.specs.History.{History}
use Rattle.token.specs.Point.{Point, need_at}
use Rattle.token.specs.RunInTurn.{point_of}
use Rattle.token.specs.Segments.{segment_in}
use Rattle.token.specs.Serial.{IsAskedFor, StandsAfter}
use Rattle.token.specs.Setup.{Setup}
use Rattle.token.specs.declared.need.Need.TheVariants as need
use Rattle.token.specs.declared.need.Work.{Work}
use Rattle.token.specs.declared.run_in_turn.RunInTurn.{RunInTurn}

-- how many host threads there may be and are, the caller counted
pub record PoolState : Type 0 where
  pub most : ℕ
  pub hands : ℕ

-- the jobs of some threads in a phase that began with these rows
abbrev pub jobs_in : Setup → (phase : ℕ) → List Thread → List ℕ → List Segment
jobs_in setup phase rows threads = map (segment_in setup phase rows) threads

-- Wherever in a phase a run of this setup stands, these are the jobs of these threads, and this is the memory that the phase began with.
abbrev pub AreJobsIn : Setup → ℕ → List ℕ → List Segment → Memory → Type 0
AreJobsIn setup number threads jobs memory =
    (point : Point) (history : History) → StandsAfter point history → point.setup ≡ setup → point.phase ≡ number → (memory ≡ point.base) × (jobs ≡ jobs_in setup number point.base_threads threads)

-- A run of a setup is asked for its next turn.
pub record IsAsked (given : Setup) (run : RunInTurn) : Type 0 where
  pub setup : (point_of run).setup ≡ given
  pub asked : IsAskedFor run

-- A run of a setup is asked for its next turn, and needs the end of this segment for it.
pub record NeedsEnd (given : Setup) (serial : RunInTurn) (work : Work) : Type 0 where
  pub run : IsAsked given serial
  pub need : need_at (point_of serial) ≡ need.Segment work
