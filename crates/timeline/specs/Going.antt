-- Where the motions to a step end.
use Rattle.std.specs.Prelude.{◌≡◌, ◌⊎◌, ℕ, ◌+◌, ◌-◌, ◌<◌, ◌≤◌, ◌^◌, Bool, true, false, Some, min}
use Rattle.token.specs.Point.{Point}
use Rattle.timeline.specs.Halting.{NoneBetween, end_at}
use Rattle.timeline.specs.Halts.{Wanted}
use Rattle.timeline.specs.Moment.{moment_at}
use Rattle.timeline.specs.Present.{moment_of, step_of, steps_of}
use Rattle.timeline.specs.declared.halt.Halt.TheVariants.{End}
use Rattle.timeline.specs.declared.present.Present.{Present}

-- the step that so many more lead to: no more than 2^63 are counted
abbrev pub goal_of : Present → ℕ → ℕ
goal_of old most = step_of old + min most (2 ^ 63 - step_of old)

-- it stands at a position of the run that begins there
abbrev pub IsAt : Point → Present → Type 0
IsAt start present = moment_at start (step_of present) ≡ Some (moment_of present)

-- it stands at the last position of its run
abbrev pub IsAtEnd : Present → Type 0
IsAtEnd present = end_at (moment_of present) ≡ Some End

-- Where memory was refused it stands further on, with no halt on the way, or at the start of its turn.
abbrev pub IsRefused : Wanted → Point → Present → Present → Type 0
IsRefused wanted start old new = NoneBetween wanted start (step_of old) (step_of new) × ((step_of old ≤ step_of new) ⊎ (steps_of new.underway ≡ 0))

-- A step was made, or there is none.
abbrev pub IsStepped : Present → Bool → Present → Type 0
IsStepped old true new = step_of new ≡ goal_of old 1
IsStepped old false new = (step_of new ≡ step_of old) × IsAtEnd new

-- It stands at a step, or at the last position before it, or on the way there after as many steps as were allowed.
abbrev pub IsSought : Present → ℕ → ℕ → Bool → Present → Type 0
IsSought old step most true new = (step_of new ≡ step) ⊎ ((step_of new < step) × IsAtEnd new)
IsSought old step most false new = (step_of new ≡ goal_of old most) × (step_of new < step)
