-- What was read of a file or of standard input, and why it was not.
use Rattle.std.specs.Prelude.{◌≡◌, ◌⊎◌, ℕ, ◌+◌, Option, List, IfSome, take}
use Rattle.command_requests.specs.declared.failure.Failure.{Failure}
use Rattle.command_requests.specs.declared.failure.Failure.TheVariants.{CannotRead, OutOfMemory}
use Rattle.command_requests.specs.declared.target.Target.{Target}
use Rattle.command_requests.specs.declared.target.Target.TheVariants.{Path, PartOf, StandardInput, StandardOutput}

-- whether a target is the file at a path
abbrev pub IsAt : List ℕ → Target → Type 0
IsAt path (Path other) = other.now ≡ path
IsAt path (PartOf other) = ⊥
IsAt path StandardInput = ⊥
IsAt path StandardOutput = ⊥

-- bytes that were read up to a limit, of all that there are where these are known
abbrev pub AreRead : ℕ → Option (List ℕ) → List ℕ → Type 0
AreRead limit known bytes = IfSome known (λ all. bytes ≡ take (limit + 1) all)

-- the bytes of the file at a path could not be read
abbrev pub IsUnreadAt : List ℕ → Failure → Type 0
IsUnreadAt path (CannotRead target) = IsAt path target
IsUnreadAt path OutOfMemory = Unit {0}
IsUnreadAt path other = ⊥

-- the bytes of a file or of the input could not be read
abbrev pub IsUnread : List ℕ → Failure → Type 0
IsUnread path failure = IsUnreadAt path failure ⊎ (failure ≡ CannotRead StandardInput)
