-- The numbers of a batch.
use Rattle.std.specs.Prelude.{ℕ, ◌+◌, ◌^◌, ◌≤◌, ◌<◌}
use Rattle.explored_runs.specs.declared.batch.Batch.{Batch}

-- the number at a place
abbrev pub number_at : Batch → (place : ℕ) → ℕ
number_at batch place = batch.from + batch.done + place

-- There are numbers, and they are among those of schedules, 1 to 2^32 - 1.
pub record IsInRange (batch : Batch) : Type 0 where
  pub any : 0 < batch.count
  pub some : 0 < batch.from
  pub within : number_at batch batch.count ≤ 2 ^ 32
