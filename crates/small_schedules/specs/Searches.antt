-- What a search of small schedules comes to.
use Rattle.std.specs.Prelude.{◌≡◌, ◌⊎◌, ℕ, ◌+◌, ◌-◌, ◌<◌, ◌≤◌, Bool, true, false}
use Rattle.shuffled_phases.specs.declared.shuffle.Shuffle.{Shuffle}
use Rattle.small_schedules.specs.Measures.{set, until}
use Rattle.small_schedules.specs.declared.measure.Measure.{Measure}

-- what is told of the run of a schedule: that it fails, or that it doesn't
abbrev pub Telling : Type 1
Telling = Shuffle → Bool → Type 0

-- an amount of a schedule by which the run fails, next to one by which it doesn't or to the least that was looked at
pub record IsEdge (tells : Telling) (measure : Measure) (shuffle : Shuffle) (least most amount : ℕ) : Type 0 where
  pub above : least < amount
  pub within : amount ≤ most
  pub fails : tells (set measure shuffle amount) true
  pub next : (amount ≡ least + 1) ⊎ tells (set measure shuffle (amount - 1)) false

-- The run of a schedule with this number fails. It doesn't with one phase fewer at the end, if any is shuffled.
pub record IsSmall (tells : Telling) (number : ℕ) (shuffle : Shuffle) : Type 0 where
  pub numbered : shuffle.number ≡ number
  pub fails : tells shuffle true
  pub needed : 0 < shuffle.last → tells (until shuffle (shuffle.last - 1)) false
