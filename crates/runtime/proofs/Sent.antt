-- What was taken, piece by piece.
use Rattle.std.proofs.Common.{◌≡◌, ◌+◌, ℕ, Option, Some, None, Err, List, [], ◌++◌, length, take, ap, refl, sym, ◌∙◌, append_assoc, append-nil, length-append, subst}
use Rattle.std.proofs.Math.Seq.{take-append-add}
use Rattle.std.specs.Io.{StartsWith}
use Rattle.std.specs.Io.KnownBytes.{Appends}
use Rattle.token.specs.RunInTurn.{point_of}
use Rattle.token.specs.Serial.{IsLonger, fresh_at}
use Rattle.token.specs.declared.outcome.RunOutcome.{RunOutcome}
use Rattle.token.specs.declared.run_in_turn.RunInTurn.{RunInTurn}
use Rattle.runtime.specs.Sending.{AppendsPrefix}
use Rattle.runtime.specs.Turns.{GoesOn}
use Rattle.runtime.specs.declared.interruption.Interruption.TheVariants.{WriteFailed}

-- no byte more
pub appends_none : (known : Option (List ℕ)) → Appends known known []
appends_none None = tt
appends_none (Some bytes) = sym (append-nil bytes)

-- first these bytes, then those
pub appends_more : (old mid new : Option (List ℕ)) (bytes more : List ℕ) → Appends old mid bytes → Appends mid new more → Appends old new (bytes ++ more)
appends_more None mid new bytes more first second = tt
appends_more (Some before) None new bytes more first second = absurd first
appends_more (Some before) (Some here) None bytes more first second = absurd second
appends_more (Some before) (Some here) (Some after) bytes more first second =
    let joined : here ++ more ≡ (before ++ bytes) ++ more = ap (λ all. all ++ more) first in
    second ∙ joined ∙ append_assoc before bytes more

starts_more : (before fresh prefix : List ℕ) → StartsWith fresh prefix → StartsWith (before ++ fresh) (before ++ prefix)
starts_more before fresh prefix starts =
    ap (λ (n : ℕ). take n (before ++ fresh)) (length-append before prefix) ∙ take-append-add before fresh (length prefix) ∙ ap (λ (rest : List ℕ). before ++ rest) starts

-- all of an output, and then a prefix of what it is longer by
pub prefix_more : (start old new : Option (List ℕ)) (before fresh whole : List ℕ) → whole ≡ before ++ fresh → Appends start old before → AppendsPrefix fresh old new
    → AppendsPrefix whole start new
prefix_more start old new before fresh whole is sent prefix =
    subst (λ (bytes : List ℕ). AppendsPrefix bytes start new) (sym is)
    (before ++ prefix.0, starts_more before fresh prefix.0 prefix.1, appends_more start old new before prefix.0 sent prefix.2)

-- a turn was done, and the sink failed at what it wrote
pub unsent : {T S : Type 0} {outcome_in : T → Option RunOutcome} (writes : Type 0) (taken : S → Option (List ℕ)) (failed : S → ℕ) (run run' : RunInTurn) (sink sink' : S) (fresh : List ℕ)
    → IsLonger (point_of run) (point_of run') → fresh ≡ fresh_at (point_of run') → AppendsPrefix fresh (taken sink) (taken sink') → failed sink' ≡ failed sink + 1
    → GoesOn {T = T} writes taken failed outcome_in (Err WriteFailed) run run' sink sink'
unsent writes taken failed run run' sink sink' fresh longer is prefix once =
    let before : List ℕ = (point_of run).state.output in
    record {
      setup = longer.setup;
      ended = tt;
      sent = λ start sent. prefix_more start _ _ before fresh _ (longer.output ∙ ap (λ (bytes : List ℕ). before ++ bytes) (sym is)) sent prefix;
      failures = (λ told. once, λ other. absurd (other refl));
      writes_if = λ told. cc;
    }
