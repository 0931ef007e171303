-- What arguments that make no request come to.
use Rattle.std.specs.Io.KnownBytes.{Appends}
use Rattle.std.specs.Prelude.{◌≡◌, ◌≢◌, ◌⊎◌, ◌+◌, ◌^◌, ◌<◌, ℕ, Option, Some, None, List, [], codes}
use Rattle.std.specs.Option.{IsSomeAnd}
use Rattle.clap.specs.Faults.{fault_of}
use Rattle.clap.specs.Kinds.{IsAmong}
use Rattle.clap.specs.Words.{Row, Text, first_of, one_of, subcommand_of}
use Rattle.clap.specs.declared.error.kind.ErrorKind.{ErrorKind}
use Rattle.clap.specs.declared.error.kind.ErrorKind.TheVariants.{DisplayHelp, DisplayVersion, OutOfMemory}
use Rattle.command_requests.specs.Asked.{IsRead}
use Rattle.command_requests.specs.Commands.{program}
use Rattle.command_requests.specs.Shuffles.{shuffle_of}
use Rattle.command_requests.specs.Status.{failure_status}
use Rattle.command_requests.specs.declared.failure.Failure.{Failure}
use Rattle.command_requests.specs.declared.failure.Failure.TheVariants as failures
use Rattle.command_requests.specs.declared.target.Target.TheVariants.{StandardOutput}

-- the status after a text was to be printed: it was, or standard output failed, or memory ran out
abbrev pub IsAfterPrint : ℕ → Type 0
IsAfterPrint status = (status ≡ 0) ⊎ ((status ≡ 124) ⊎ (status ≡ 125))

-- the status after an error of this kind: memory ran out; help or the version was printed, or couldn't be; or the arguments are wrong
pub record IsStatusOf (kind : ErrorKind) (status : ℕ) : Type 0 where
  pub memory : kind ≡ OutOfMemory → status ≡ 125
  pub help : kind ≡ DisplayHelp → IsAfterPrint status
  pub version : kind ≡ DisplayVersion → IsAfterPrint status
  pub wrong : kind ≢ OutOfMemory → kind ≢ DisplayHelp → kind ≢ DisplayVersion → status ≡ 2

-- The parser made no matches of the words: memory ran out, or they are refused, and it is the status after an error that they make.
abbrev pub IsUnmatched : List Text → ℕ → Type 0
IsUnmatched words status = (kind : ErrorKind) × ((kind ≡ OutOfMemory) ⊎ IsAmong kind (fault_of program words)) × IsStatusOf kind status

-- Why the values of a command's arguments make no request: memory ran out, the text that is given for the shuffle says none, or the runs need
-- numbers above the last one.
abbrev pub IsUnread : List Row → Failure → Type 0
IsUnread rows failures.OutOfMemory = Unit {0}
IsUnread rows (failures.InvalidShuffle text) = (first_of (codes "shuffle") rows ≡ Some text.now) × (shuffle_of text.now ≡ None)
IsUnread rows (failures.BeyondLastNumber from runs) =
    IsRead 32 (one_of (codes "from") rows) (Some from) × IsRead 32 (one_of (codes "runs") rows) (Some runs) × (2 ^ 32 < from + runs)
IsUnread rows other = ⊥

-- the parser refused no word, and the values of the command that it found make no request
abbrev pub IsRefused : List Text → Failure → Type 0
IsRefused words failure = (fault_of program words ≡ []) × IsSomeAnd (subcommand_of program words) (λ found. IsUnread found.1 failure)

-- the status after words that make no request
abbrev pub IsUnasked : List Text → ℕ → Type 0
IsUnasked words status = IsUnmatched words status ⊎ ((failure : Failure) × IsRefused words failure × (status ≡ failure_status failure))

-- standard output holds a text after what it held
abbrev pub IsFollowed : (old new : Option (List ℕ)) → Type 0
IsFollowed old new = (text : List ℕ) × Appends old new text

-- A text wasn't printed: memory ran out before, or standard output failed.
abbrev pub IsUnprinted : (old new : Option (List ℕ)) → Failure → Type 0
IsUnprinted old new failure = ((failure ≡ failures.OutOfMemory) × (new ≡ old)) ⊎ (failure ≡ failures.CannotWrite StandardOutput)

-- Standard output is as it was, unless help or the version was to be printed. If it was printed, it stands after what was there.
pub record KeepsUnlessHelp (status : ℕ) (old new : Option (List ℕ)) : Type 0 where
  pub kept : status ≢ 0 → status ≢ 124 → new ≡ old
  pub printed : status ≡ 0 → IsFollowed old new
