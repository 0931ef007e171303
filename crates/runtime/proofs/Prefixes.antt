-- A prefix of a legal history's output.
use Rattle.std.proofs.Common.{◌≡◌, ◌∙◌, ℕ, Option, None, List, [], ◌∷◌, length, take, refl, ap, sym, subst}
use Rattle.std.specs.Io.KnownBytes.{Appends}
use Rattle.token.specs.Setup.{Setup}
use Rattle.call_table.specs.State.{State}
use Rattle.token.specs.History.{History}
use Rattle.token.specs.RunInTurn.{point_of}
use Rattle.token.specs.Serial.{HasRecorded, StandsAfter}
use Rattle.token.specs.declared.run_in_turn.RunInTurn.{RunInTurn}
use Rattle.runtime.specs.Recorded.{RecordsPrefix, RecordsUnended, Recording}
use Rattle.runtime.specs.Sending.{AppendsPrefix, SendsPrefix}

-- what a recorder has recorded of a run is recorded of a legal history
pub prefix_recorded : {R : Type 0} → (records : Recording R) (run : RunInTurn) (setup : Setup) (recorder : R) → HasRecorded records recorder run → (point_of run).setup ≡ setup
    → RecordsPrefix records setup recorder
prefix_recorded records run setup recorder has is = subst (λ (given : Setup). RecordsPrefix records given recorder) is (has.0, has.1.legal, has.2)

-- so is what it has recorded of a run that goes on
pub unended_recorded : {R : Type 0} → (records : Recording R) (run : RunInTurn) (setup : Setup) (recorder : R) → HasRecorded records recorder run → (point_of run).setup ≡ setup
    → (point_of run).ended ≡ None → RecordsUnended records setup recorder
unended_recorded records run setup recorder has is goes =
    subst (λ (given : Setup). RecordsUnended records given recorder) is (has.0, has.1.legal, has.1.ended ∙ goes, has.2)

-- a prefix of the output of a run is one of its history's
pub prefix_sent : (run : RunInTurn) (history : History) (setup : Setup) (old new : Option (List ℕ)) → StandsAfter (point_of run) history → (point_of run).setup ≡ setup
    → AppendsPrefix (point_of run).state.output old new → SendsPrefix setup old new
prefix_sent run history setup old new stands is sent =
    subst (λ (given : Setup). SendsPrefix given old new) is (history, stands.legal, subst (λ (state : State). AppendsPrefix state.output old new) (sym stands.state) sent)

starts_with_all : (bytes : List ℕ) → take (length bytes) bytes ≡ bytes
starts_with_all [] = refl
starts_with_all (n ∷ bytes) = ap (λ (rest : List ℕ). n ∷ rest) (starts_with_all bytes)

-- all of an output is a prefix of it
pub appends_prefix : (bytes : List ℕ) (old new : Option (List ℕ)) → Appends old new bytes → AppendsPrefix bytes old new
appends_prefix bytes old new sent = (bytes, starts_with_all bytes, sent)
