-- What a turn adds to a run.
use Rattle.std.proofs.Common.{◌≡◌, ℕ, ◌+◌, Bool, true, false, ◌||◌, ◌==◌, nat_lt, if◌then◌else◌, Option, Some, is_some, List, [], ◌∷◌, ◌++◌, length, drop, refl, ap, sym, ◌∙◌, subst}
use Rattle.token.specs.History.{History}
use Rattle.token.specs.Legal.{Follows}
use Rattle.token.specs.Outcome.{quiet_outcome}
use Rattle.token.specs.Point.{Point, after_step, counted, moved, next_phase, passed_on, step_at}
use Rattle.token.specs.RunInTurn.{point_of}
use Rattle.token.specs.Setup.{list_in}
use Rattle.token.specs.Serial.{IsAskedFor, IsLawful, IsLonger, IsNeeded, StandsAfter}
use Rattle.call_table.specs.State.{State}
use Rattle.token.specs.Turns.{Step}
use Rattle.token.specs.declared.run_in_turn.RunInTurn.{RunInTurn}
use Rattle.segment.specs.declared.segment_end.SegmentEnd.{SegmentEnd}
use Rattle.token.proofs.Outputs.{output_grows}
use Rattle.token.proofs.NextStep.{step_follows}

-- what the next phase leaves as it was
record Leaves (point other : Point) : Type 0 where
  setup : other.setup ≡ point.setup
  state : other.state ≡ point.state
  done : other.done ≡ point.done
  fresh_from : other.fresh_from ≡ point.fresh_from

as_it_was : (point : Point) → Leaves point point
as_it_was point = record { setup = refl; state = refl; done = refl; fresh_from = refl }

passed_leaves : (point : Point) → Leaves point (passed_on point)
unfolding passed_on next_phase
passed_leaves point =
    by_test (is_some point.ended || is_some point.keeper || nat_lt point.given (length point.list)) (length (list_in point.setup (point.phase + 1) point.state.threads) == 0)
  where
    by_test : (goes empty : Bool) → Leaves point
        (if goes then point
        else (if empty then record point { ended = Some (quiet_outcome point.state) }
        else record point { phase = point.phase + 1; first = point.done; base = point.state.memory; base_threads = point.state.threads; list = list_in point.setup (point.phase + 1) point.state.threads; given = 0 }))
    by_test true empty = as_it_was point
    by_test false true = record { setup = refl; state = refl; done = refl; fresh_from = refl }
    by_test false false = record { setup = refl; state = refl; done = refl; fresh_from = refl }

drop_prefix : (prefix rest : List ℕ) → drop (length prefix) (prefix ++ rest) ≡ rest
drop_prefix [] rest = drop_none rest
  where
    drop_none : (rest : List ℕ) → drop 0 rest ≡ rest
    drop_none [] = refl
    drop_none (n ∷ rest) = refl
drop_prefix (n ∷ prefix) rest = drop_prefix prefix rest

fresh_is : (old more whole : List ℕ) (from : ℕ) → whole ≡ old ++ more → from ≡ length old → whole ≡ old ++ drop from whole
fresh_is old more whole from is at =
    is ∙ ap (λ rest. old ++ rest) (sym (drop_prefix old more)) ∙ ap (λ (n : ℕ). old ++ drop n (old ++ more)) (sym at) ∙ ap (λ (all : List ℕ). old ++ drop from all) (sym is)

moved_longer : (point : Point) (history : History) (step : Step) → StandsAfter point history → Follows point.setup history step → IsLonger point (moved point step)
unfolding after_step counted
moved_longer point history step stands follows =
    let leaves = passed_leaves (after_step point step) in
    let grows = output_grows point.setup history step follows in
    let output : step.after.output ≡ point.state.output ++ grows.more = grows.is ∙ ap (λ (state : State). state.output ++ grows.more) stands.state in
    record {
      setup = leaves.setup;
      done = leaves.done;
      output = fresh_is point.state.output grows.more (moved point step).state.output (moved point step).fresh_from (ap (λ (state : State). state.output) leaves.state ∙ output) leaves.fresh_from;
    }

pub longer : (old new : RunInTurn) (end : Option SegmentEnd) → IsLawful old → IsNeeded old end → point_of new ≡ moved (point_of old) (step_at (point_of old) end)
    → IsLonger (point_of old) (point_of new)
longer old new end lawful needed made =
    subst (λ (point : Point). IsLonger (point_of old) point) (sym made)
    (moved_longer (point_of old) lawful.0 (step_at (point_of old) end) lawful.1 (step_follows (point_of old) lawful.0 end lawful.1 lawful.2 needed))

pub asked_for : (run : RunInTurn) → IsLawful run → IsAskedFor run
asked_for run lawful = (lawful.0, lawful.1, λ end needed. step_follows (point_of run) lawful.0 end lawful.1 lawful.2 needed)
