-- One text of a run, and what becomes of it.
use Rattle.std.specs.Prelude.{◌≡◌, ◌≢◌, ◌⊎◌, ℕ, Option, List}
use Rattle.output_files.specs.Content.{Content}
use Rattle.command_requests.specs.Destination.{IsFiled, IsPartTargetOf, Prints, target_of}
use Rattle.command_requests.specs.declared.destination.Destination.{Destination}
use Rattle.command_requests.specs.declared.destination.Destination.TheVariants.{StandardOutput}
use Rattle.command_requests.specs.declared.failure.Failure.{Failure}
use Rattle.command_requests.specs.declared.failure.Failure.TheVariants.{CannotWrite, OutOfMemory}

-- why a text didn't get to its destination
abbrev pub IsUnwrittenTo : Destination → Failure → Type 0
IsUnwrittenTo destination (CannotWrite target) = target ≡ target_of destination
IsUnwrittenTo destination OutOfMemory = Unit {0}
IsUnwrittenTo destination other = ⊥

-- why no output was begun for a text: its destination can't be written, or something is in the way of its file's part
abbrev pub IsUnbegunFor : Destination → Failure → Type 0
IsUnbegunFor destination (CannotWrite target) = (target ≡ target_of destination) ⊎ IsPartTargetOf destination target
IsUnbegunFor destination OutOfMemory = Unit {0}
IsUnbegunFor destination other = ⊥

-- standard output is as it was, unless a text was to be printed there
abbrev pub KeepsUnlessPrinted : Destination → (old new : Option (List ℕ)) → Type 0
KeepsUnlessPrinted destination old new = destination ≢ StandardOutput → new ≡ old

-- A text is where it is to be: in its file, or after what standard output held.
pub record IsPut (tells : Type 0) (destination : Destination) (text : List ℕ) (content : Content) (old new : Option (List ℕ)) : Type 0 where
  pub filed : IsFiled destination text content
  pub printed_after : Prints tells destination text old new
