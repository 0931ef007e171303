-- What the parser's matches of words are, for the commands of the program.
use Rattle.std.proofs.Common.{◌≡◌, List, [], Result, Ok, Err, IfErr, IfOk, subst, sym}
use Rattle.clap.specs.Faults.{fault_of}
use Rattle.clap.specs.Kinds.{FailsBy, HasKind, Kinds}
use Rattle.clap.specs.Words.{Text, subcommand_of, subcommand_rows_of}
use Rattle.clap.specs.declared.error.Error.{Error}
use Rattle.clap.specs.declared.parser.matches.ArgMatches.{ArgMatches}
use Rattle.command_requests.proofs.Complete.{is_found}
use Rattle.command_requests.specs.Commands as spec
use Rattle.command_requests.specs.Needed.{IsFound}

-- nothing is refused
pub passed : {T : Type 0} (kinds : Kinds) (answer : Result T Error) → FailsBy kinds answer → IfOk answer (λ _. kinds ≡ [])
passed kinds (Ok value) none = none
passed kinds (Err error) has = tt

-- the error has a kind of what is refused
pub failed : {T : Type 0} (kinds : Kinds) (answer : Result T Error) → FailsBy kinds answer → IfErr answer (HasKind kinds)
failed kinds (Ok value) none = tt
failed kinds (Err error) has = has

-- the command that was found has what it needs
pub complete : (words : List Text) (answer : Result ArgMatches Error) → IfOk answer (λ _. fault_of spec.program words ≡ [])
    → IfOk answer (λ matches. subcommand_rows_of matches ≡ subcommand_of spec.program words) → IfOk answer (λ matches. IsFound (subcommand_rows_of matches))
complete words (Ok matches) none found = subst IsFound (sym found) (is_found words none)
complete words (Err error) none found = tt
