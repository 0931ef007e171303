-- What of a schedule is made small.
use Rattle.std.specs.Prelude.{ℕ, ◌-◌, ◌^◌, ◌==◌, if◌then◌else◌, max, min}
use Rattle.shuffled_phases.specs.declared.shuffle.Shuffle.{Shuffle}
use Rattle.small_schedules.specs.declared.measure.Measure.{Measure}
use Rattle.small_schedules.specs.declared.measure.Measure.TheVariants.{Last, Before, Choices}

-- The schedule with another last phase. If that is 0, no phase is shuffled, and the first one is 1.
abbrev pub until : Shuffle → (last : ℕ) → Shuffle
until shuffle last = record shuffle { first = if last == 0 then 1 else shuffle.first; last = last }

-- the schedule with so much of it
abbrev pub set : Measure → Shuffle → (amount : ℕ) → Shuffle
set Last shuffle amount = until shuffle amount
set Before shuffle amount = record shuffle { first = max (shuffle.last - amount) 1 }
set Choices shuffle amount = record shuffle { choices = min amount (2 ^ 32 - 1) }
