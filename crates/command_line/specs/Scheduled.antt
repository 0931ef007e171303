-- The events of a schedule's text, and why there are none.
use Rattle.std.specs.Prelude.{◌≡◌, ◌⊎◌, ℕ, ◌≤◌, Option, List, length}
use Rattle.schedule.specs.declared.event.Event.{Event}
use Rattle.schedule_text.specs.Text.{IsFirstBadLine, IsText}
use Rattle.command_requests.specs.Reading.{AreRead, IsUnreadAt}
use Rattle.command_requests.specs.declared.failure.Failure.{Failure}
use Rattle.command_line.specs.declared.replay_failure.ReplayFailure.{ReplayFailure}
use Rattle.command_line.specs.declared.replay_failure.ReplayFailure.TheVariants.{Plain, NotAnEvent}

-- how many bytes a schedule has at most
abbrev pub schedule_limit : ℕ
schedule_limit = 16_777_216

-- a schedule was read within its limit, and has a line for each of these events
pub record AreScheduled (content : Option (List ℕ)) (events : List Event) : Type 0 where
  pub text : List ℕ
  pub text_read : AreRead schedule_limit content text
  pub within : length text ≤ schedule_limit
  pub lines : IsText text events

-- why it wasn't: it can't be read or has more bytes, or memory was refused, or a line is no event
abbrev pub IsUnscheduled : List ℕ → Option (List ℕ) → ReplayFailure → Type 0
IsUnscheduled path content failure =
    ((plain : Failure) × (failure ≡ Plain plain) × IsUnreadAt path plain)
    ⊎ ((text : List ℕ) × (line : ℕ) × (failure ≡ NotAnEvent line) × AreRead schedule_limit content text × IsFirstBadLine text line)
