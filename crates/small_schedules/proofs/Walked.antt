-- Where a walk along a run leads.
use Rattle.std.proofs.Common.{◌≡◌, ◌∙◌, ◌+◌, ◌<◌, ◌≤◌, ◌||◌, ◌==◌, inl, inr, ℕ, Bool, true, false, if◌then◌else◌, nat_lt, Option, Some, None, is_some, IsSome, List, [], ◌∷◌, length, refl, ap, arith}
use Rattle.std.proofs.lemmas.Bool.{eqb-false, ne_eqb}
use Rattle.runtime.proofs.OneReport.{one_answer}
use Rattle.runtime.specs.Answer.{HasAnswer}
use Rattle.shuffled_phases.proofs.Lists.{length-part}
use Rattle.thread_table.specs.Threads.{numbers_where, serial_list}
use Rattle.token.proofs.SerialList.{listed_part}
use Rattle.token.specs.History.{History, IsNextPhase, first_version, heads, list_of, outcome, phase_of, version}
use Rattle.token.specs.Law.{Determinism, Progress}
use Rattle.token.specs.Legal.{IsLegal}
use Rattle.token.specs.Point.{Point, after_step, counted, moved, next_phase, passed_on}
use Rattle.token.specs.Serial.{StandsAfter}
use Rattle.token.specs.Setup.{Setup, first_state, list_in}
use Rattle.token.specs.Turns.{Step}
use Rattle.token.specs.declared.outcome.RunOutcome.{RunOutcome}

-- ---- a turn leads to the same phase or to the next

picked : (first : Bool) (one other : Point) (most : ℕ) → one.phase ≤ most → other.phase ≤ most → (if first then one else other).phase ≤ most
picked true one other most within below = within
picked false one other most within below = below

next_within : (point : Point) (list : List ℕ) → (next_phase point list).phase ≤ point.phase + 1
unfolding next_phase
next_within point list = picked (length list == 0) _ _ (point.phase + 1) (omega arith) (omega arith)

passed_within : (point : Point) → (passed_on point).phase ≤ point.phase + 1
unfolding passed_on
passed_within point =
    picked (is_some point.ended || is_some point.keeper || nat_lt point.given (length point.list)) point _ (point.phase + 1) (omega arith)
    (next_within point (list_in point.setup (point.phase + 1) point.state.threads))

pub moved_within : (point : Point) (step : Step) → (moved point step).phase ≤ point.phase + 1
unfolding after_step counted
moved_within point step = passed_within (after_step point step)

-- ---- a run begins in phase 1

one_thread : (setup : Setup) → length (serial_list (first_state setup).threads) ≡ 1
unfolding first_state numbers_where
one_thread setup = refl

listed : (setup : Setup) → list_of setup [] 1 ≡ [] → ⊥
unfolding list_of version first_version
listed setup none =
    let one = one_thread setup in
    let alike = length-part _ _ (listed_part setup 1 (first_state setup).threads) in
    let some = eqb-false _ _ (alike ∙ ne_eqb (length (serial_list (first_state setup).threads)) 0 (λ same. omega arith)) in
    let empty : length (list_in setup 1 (first_state setup).threads) ≡ 0 = ap length none in
    absurd (omega (arith, some, empty))

phase_at_start : (setup : Setup) (phase : ℕ) → IsNextPhase setup [] phase → phase ≡ 1
unfolding phase_of heads
phase_at_start setup phase (inl same) = same
phase_at_start setup phase (inr next) = absurd (listed setup next.2)

at_start : (point : Point) (history : History) → length history ≡ 0 → IsNextPhase point.setup history point.phase → point.phase ≡ 1
at_start point [] none next = phase_at_start point.setup point.phase next
at_start point (step ∷ before) none next = absurd (omega arith)

pub begins_at : (point : Point) (history : History) → StandsAfter point history → point.done ≡ 0 → point.phase ≡ 1
begins_at point history stands done = at_start point history (stands.done ∙ done) stands.phase

-- ---- a run that ends before a phase

phase_before : (setup : Setup) (history : History) (phase : ℕ) → IsNextPhase setup history phase → phase_of history ≤ phase
phase_before setup history phase (inl same) = omega arith
phase_before setup history phase (inr next) = let is = next.0 in omega arith

ends_before : (setup : Setup) (history : History) (last : ℕ) (found : Option RunOutcome) → Determinism → Progress → IsLegal setup history
    → outcome setup history ≡ found → IsSome found → phase_of history < last → HasAnswer setup (λ other. phase_of other < last)
ends_before setup history last (Some ends) one goes legal is some before = one_answer setup history ends (λ other. phase_of other < last) one goes legal is before
ends_before setup history last None one goes legal is some before = absurd (let no : false ≡ true = some in cc no)

pub ended_before : (point : Point) (history : History) (last : ℕ) → Determinism → Progress → StandsAfter point history → IsSome point.ended → point.phase < last
    → HasAnswer point.setup (λ other. phase_of other < last)
ended_before point history last one goes stands ended before =
    ends_before point.setup history last point.ended one goes stands.legal stands.ended ended (let within = phase_before point.setup history point.phase stands.phase in omega arith)
