-- A run that stands after a history stands after the longer one once its next step is made.
use Rattle.std.proofs.Common.{◌≡◌, ℕ, zero, suc, ◌+◌, ◌<◌, ◌≤◌, Bool, true, false, not, ◌||◌, ◌==◌, nat_lt, if◌then◌else◌, Option, Some, None, is_some, List, [], ◌∷◌, ◌++◌, length, take, refl, ap, sym, ◌∙◌, subst, inl, inr, arith, length-append}
use Rattle.std.specs.Prelude.{slice_index}
use Rattle.std.proofs.lemmas.Bool.{and_left, and_right, eqb-false, ltb-true, ltb-false, not_from_true}
use Rattle.std.proofs.lemmas.List.{take_more, length-take-le}
use Rattle.abi.specs.Limits as limit
use Rattle.thread_table.specs.Threads.{serial_list}
use Rattle.thread_table.specs.declared.status.Status.{Status}
use Rattle.thread_table.specs.declared.status.Status.TheVariants.{Ready, Woken, Blocked, Done}
use Rattle.thread_table.specs.declared.thread.Thread.{Thread}
use Rattle.token.specs.History.{History, first_version, heads, is_quiet, keeper_of, keeps, last_outcome, list_of, outcome, phase_of, present, same_threads, thread_of, version}
use Rattle.token.specs.Legal.{Follows, IsLegal}
use Rattle.token.specs.Outcome.{outcome_of_stop, quiet_outcome}
use Rattle.token.specs.Point.{Point, after_step, counted, due_at, due_by, due_next, keeper_after, moved, next_phase, passed_on}
use Rattle.token.specs.Serial.{Invariants, StandsAfter}
use Rattle.token.specs.Setup.{Setup, list_in}
use Rattle.call_table.specs.State.{State, row_of}
use Rattle.token.specs.Due.{thread_due}
use Rattle.token.specs.Turns.{Step}
use Rattle.token.specs.declared.outcome.RunOutcome.{RunOutcome}
use Rattle.token.proofs.Dues.{keeper_is, no_keeper}
use Rattle.token.proofs.KeeperHolds.{held_by_keeper}
use Rattle.token.proofs.Outputs.{output_grows}
use Rattle.shuffled_phases.proofs.Lists.{length-part}
use Rattle.token.proofs.SerialList.{listed_part}
use Rattle.token.proofs.SameThreads.{same_threads-false, same_threads-from, same_threads-none}
use Rattle.token.proofs.Versions.{first_version_kept, first_version_next, first_version_within, heads_keeper, heads_next, heads_none, version_last, version_older}

-- a run stands after a history in the phase of its last turn
pub record StandsIn (point : Point) (history : History) : Type 0 where
  pub legal : IsLegal point.setup history
  pub done : length history ≡ point.done
  pub state : present point.setup history ≡ point.state
  pub first : first_version history point.phase ≡ point.first
  pub base : (version point.setup history point.first).memory ≡ point.base
  pub base_threads : (version point.setup history point.first).threads ≡ point.base_threads
  pub list : list_in point.setup point.phase point.base_threads ≡ point.list
  pub heads : heads history point.phase ≡ take point.given point.list
  pub keeper : keeper_of history ≡ point.keeper
  pub ended : last_outcome history ≡ point.ended
  pub phase : point.phase ≡ phase_of history
  pub within : point.given ≤ length point.list
  pub number : point.phase ≤ point.done
  pub bound : point.setup.bound ≤ limit.instructions
  pub fresh : point.fresh_from ≤ length point.state.output

-- A run stands after a history, and what holds of each point holds of it.
abbrev pub Stands : Point → History → Type 0
Stands point history = StandsAfter point history × Invariants point

-- the list

pub list_is : (setup : Setup) (history : History) (phase first : ℕ) (threads : List Thread) (list : List ℕ) → first_version history phase ≡ first
    → (version setup history first).threads ≡ threads → list_in setup phase threads ≡ list → list_of setup history phase ≡ list
unfolding list_of
list_is setup history phase first threads list begins has lists =
    ap (λ number. list_in setup phase (version setup history number).threads) begins ∙ ap (λ threads. list_in setup phase threads) has ∙ lists

-- one step

next_thread : (next : ℕ) (status : Status) → thread_due (due_next next status) ≡ next
next_thread next Ready = refl
next_thread next (Woken mutex) = refl
next_thread next Blocked = refl
next_thread next (Done value) = refl

heads_behind : (history : History) (step : Step) (phase given : ℕ) (list : List ℕ) (state : State) (keeper : Option ℕ) → keeper_of history ≡ keeper → heads history phase ≡ take given list
    → step.turn.phase ≡ phase → step.turn.thread ≡ thread_due (due_by keeper state (slice_index list given)) → (keeper ≡ None → given < length list)
    → heads (step ∷ history) phase ≡ take (if is_some keeper then given else given + 1) list
heads_behind history step phase given list state (Some keeper) keeps now same thread listed = heads_keeper history step phase (keeper_is history keeper keeps).0 ∙ now
heads_behind history step phase given list state None keeps now same thread listed =
    let more = subst (λ p. heads (step ∷ history) p ≡ heads history p ++ step.turn.thread ∷ []) same (heads_next history step (no_keeper history keeps)) in
    more ∙ ap (λ prefix. prefix ++ step.turn.thread ∷ []) now ∙ ap (λ n. take given list ++ n ∷ []) (thread ∙ next_thread (slice_index list given) (row_of state (slice_index list given)).status) ∙ sym (take_more list given 0 (listed refl))

within_behind : (given : ℕ) (list : List ℕ) (keeper : Option ℕ) → given ≤ length list → (keeper ≡ None → given < length list) → (if is_some keeper then given else given + 1) ≤ length list
within_behind given list (Some keeper) within listed = within
within_behind given list None within listed = let below = listed refl in omega arith

keeper_made : (history : History) (step : Step) → keeper_of (step ∷ history) ≡ keeper_after step.after step.turn.thread (outcome_of_stop step.turn.thread step.turn.stop)
unfolding keeps last_outcome thread_of keeper_after
keeper_made history step = refl

stands_in : (point : Point) (history : History) (step : Step) → StandsAfter point history → Invariants point → Follows point.setup history step → step.turn.phase ≡ point.phase
    → step.turn.thread ≡ thread_due (due_at point) → (point.keeper ≡ None → point.given < length point.list) → StandsIn (after_step point step) (step ∷ history)
unfolding after_step counted IsLegal present last_outcome phase_of due_at
stands_in point history step stands holds follows same thread listed =
    let begins : first_version (step ∷ history) point.phase ≡ point.first = first_version_kept history step point.phase (omega arith) ∙ stands.first in
    let first : point.first ≤ length history = subst (λ n. n ≤ length history) stands.first (first_version_within history point.phase) in
    let base = version_older point.setup history step point.first first in
    let grows = output_grows point.setup history step follows in
    record {
      legal = (follows, stands.legal);
      done = let done = stands.done in omega arith;
      state = refl;
      first = begins;
      base = ap (λ state. state.memory) base ∙ stands.base;
      base_threads = ap (λ state. state.threads) base ∙ stands.base_threads;
      list = stands.list;
      heads = heads_behind history step point.phase point.given point.list point.state point.keeper stands.keeper stands.heads same thread listed;
      within = within_behind point.given point.list point.keeper holds.within listed;
      keeper = keeper_made history step;
      ended = refl;
      phase = sym same;
      number = let number = holds.number in omega arith;
      bound = holds.bound;
      fresh = output_within point.setup history step.after point.state stands.state grows.more grows.is;
    }
  where
    output_within : (setup : Setup) (history : History) (after state : State) → present setup history ≡ state → (more : List ℕ)
        → after.output ≡ (present setup history).output ++ more → length state.output ≤ length after.output
    output_within setup history after state is more output =
        let long = ap length output ∙ length-append (present setup history).output more in
        let same = ap (λ state. length state.output) is in
        omega arith

-- whether the phase goes on

outcome_of_last : (last : Option RunOutcome) (quiet : Bool) (there : RunOutcome) → (last ≡ None → quiet ≡ false) → (if is_some last then last else (if quiet then Some there else None)) ≡ last
outcome_of_last (Some ends) quiet there lively = refl
outcome_of_last None quiet there lively = rw (lively refl) refl

left_over : (ended : Option RunOutcome) (keeper : Option ℕ) (below : Bool) → (is_some ended || is_some keeper || below) ≡ true → ended ≡ None → keeper ≡ None → below ≡ true
left_over None None below goes running free = goes
left_over (Some ends) keeper below goes running free = cc
left_over None (Some thread) below goes running free = cc

used_up : (ended : Option RunOutcome) (keeper : Option ℕ) (below : Bool) → (is_some ended || is_some keeper || below) ≡ false → (ended ≡ None) × (keeper ≡ None) × (below ≡ false)
used_up None None below goes = (refl, refl, goes)
used_up (Some ends) keeper below goes = cc
used_up None (Some thread) below goes = cc

-- whether a phase goes on
abbrev goes_on : Point → Bool
goes_on point = is_some point.ended || is_some point.keeper || nat_lt point.given (length point.list)

-- the heads of the last phase and its list
heads_len : (point : Point) (history : History) → StandsIn point history → length (heads history (phase_of history)) ≡ point.given
heads_len point history stands =
    subst (λ phase. length (heads history phase) ≡ point.given) stands.phase (ap length stands.heads ∙ length-take-le point.given point.list stands.within)

last_list : (point : Point) (history : History) → StandsIn point history → list_of point.setup history (phase_of history) ≡ point.list
last_list point history stands =
    subst (λ phase. list_of point.setup history phase ≡ point.list) stands.phase
    (list_is point.setup history point.phase point.first point.base_threads point.list stands.first stands.base_threads stands.list)

lively_by : (point : Point) (history : History) → StandsIn point history → goes_on point ≡ true → (keeper : Bool) → keeps history ≡ keeper → last_outcome history ≡ None
    → is_quiet point.setup history ≡ false
unfolding is_quiet
lively_by point history stands goes true keeper running = and_left (not (keeps history)) _ (not_from_true (keeps history) keeper)
lively_by point history stands goes false keeper running =
    let free : point.keeper ≡ None = sym stands.keeper ∙ ap (λ keeper. if keeper then Some (thread_of history) else None) keeper in
    let below = ltb-true point.given (length point.list) (left_over point.ended point.keeper _ goes (sym stands.ended ∙ running) free) in
    let given = heads_len point history stands in
    let list = ap length (last_list point history stands) in
    and_right (not (keeps history)) _ (and_left (same_threads (list_of point.setup history (phase_of history)) (heads history (phase_of history))) _
    (same_threads-false _ _ (λ same. let long = ap length same in omega arith)))

goes : (point : Point) (history : History) → StandsIn point history → goes_on point ≡ true → Stands point history
unfolding outcome
goes point history stands on =
    let ended : outcome point.setup history ≡ point.ended = outcome_of_last (last_outcome history) (is_quiet point.setup history) _ (lively_by point history stands on (keeps history) refl) ∙ stands.ended in (
      record {
        legal = stands.legal;
        done = stands.done;
        state = stands.state;
        first = stands.first;
        base = stands.base;
        base_threads = stands.base_threads;
        list = stands.list;
        heads = stands.heads;
        keeper = stands.keeper;
        ended = ended;
        phase = inl stands.phase;
      },
      record {
        within = stands.within;
        holders = held_by_keeper point.setup history point.state point.keeper point.ended stands.legal stands.state stands.keeper ended;
        next = λ running free. ltb-true point.given (length point.list) (left_over point.ended point.keeper _ on running free);
        number = let number = stands.number in omega arith;
        bound = stands.bound;
        fresh = stands.fresh;
      },
    )

take_all : (n : ℕ) (list : List ℕ) → length list ≤ n → take n list ≡ list
take_all n [] within = take_none n
  where
    take_none : (n : ℕ) → let none : List ℕ = [] in take n none ≡ none
    take_none zero = refl
    take_none (suc n) = refl
take_all zero (m ∷ list) within = absurd (omega arith)
take_all (suc n) (m ∷ list) within = ap (λ rest. m ∷ rest) (take_all n list (omega arith))

quiet_if : (point : Point) (history : History) → StandsIn point history → keeps history ≡ false → length point.list ≤ point.given → (empty : Bool)
    → (length (list_in point.setup (point.phase + 1) point.state.threads) == 0) ≡ empty → is_quiet point.setup history ≡ empty
unfolding is_quiet
quiet_if point history stands free used empty is =
    let all : take point.given point.list ≡ point.list = take_all point.given point.list used in
    let same : same_threads (list_of point.setup history (phase_of history)) (heads history (phase_of history)) ≡ true =
    same_threads-from _ _ (last_list point history stands ∙ sym all ∙ subst (λ phase. take point.given point.list ≡ heads history phase) stands.phase (sym stands.heads)) in
    let there : same_threads (serial_list (present point.setup history).threads) [] ≡ empty =
    same_threads-none (serial_list (present point.setup history).threads) ∙ ap (λ state. length (serial_list state.threads) == 0) stands.state
    ∙ sym (length-part _ _ (listed_part point.setup (point.phase + 1) point.state.threads)) ∙ is in
    rw (free, same) there

-- the run ends
ends : (point : Point) (history : History) → StandsIn point history → point.ended ≡ None → is_quiet point.setup history ≡ true
    → Stands (record point { ended = Some (quiet_outcome point.state) }) history
unfolding outcome
ends point history stands running quiet =
    let last : last_outcome history ≡ None = stands.ended ∙ running in (
      record {
        legal = stands.legal;
        done = stands.done;
        state = stands.state;
        first = stands.first;
        base = stands.base;
        base_threads = stands.base_threads;
        list = stands.list;
        heads = stands.heads;
        keeper = stands.keeper;
        ended = rw (last, quiet) (ap (λ state. Some (quiet_outcome state)) stands.state);
        phase = inl stands.phase;
      },
      record {
        within = stands.within;
        holders = λ going. cc;
        next = λ more free. cc;
        number = let number = stands.number in omega arith;
        bound = stands.bound;
        fresh = stands.fresh;
      },
    )

-- the next phase begins
begins : (point : Point) (history : History) → StandsIn point history → point.ended ≡ None → point.keeper ≡ None → length point.list ≤ point.given
    → is_quiet point.setup history ≡ false → (length (list_in point.setup (point.phase + 1) point.state.threads) == 0) ≡ false
    → Stands
    (record point { phase = point.phase + 1; first = point.done; base = point.state.memory; base_threads = point.state.threads; list = list_in point.setup (point.phase + 1) point.state.threads; given = 0 })
    history
unfolding outcome
begins point history stands running free used lively filled =
    let phase : point.phase + 1 ≡ suc (phase_of history) = let same = stands.phase in omega arith in
    let above : phase_of history < point.phase + 1 = omega arith in
    let last : last_outcome history ≡ None = stands.ended ∙ running in
    let there : version point.setup history point.done ≡ point.state =
    ap (version point.setup history) (sym stands.done) ∙ version_last point.setup history ∙ stands.state in
    let some : length (list_in point.setup (point.phase + 1) point.state.threads) ≡ 0 → ⊥ = eqb-false _ _ filled in
    let all : take point.given point.list ≡ point.list = take_all point.given point.list used in
    let ended : outcome point.setup history ≡ point.ended = rw (last, lively) (sym running) in (
      record {
        legal = stands.legal;
        done = stands.done;
        state = stands.state;
        first = first_version_next point.setup history (point.phase + 1) stands.legal above ∙ stands.done;
        base = ap (λ state. state.memory) there;
        base_threads = ap (λ state. state.threads) there;
        list = refl;
        heads = heads_none point.setup history (point.phase + 1) stands.legal above;
        keeper = stands.keeper;
        ended = ended;
        phase = inr (
          phase,
          no_keeper history (stands.keeper ∙ free),
          last_list point history stands ∙ sym all ∙ subst (λ phase. take point.given point.list ≡ heads history phase) stands.phase (sym stands.heads),
        );
      },
      record {
        within = omega arith;
        holders = held_by_keeper point.setup history point.state point.keeper point.ended stands.legal stands.state stands.keeper ended;
        next = λ more none. omega (arith, some);
        number = let number = stands.number in omega arith;
        bound = stands.bound;
        fresh = stands.fresh;
      },
    )

next_stands : (point : Point) (history : History) → StandsIn point history → goes_on point ≡ false → Stands (next_phase point (list_in point.setup (point.phase + 1) point.state.threads)) history
unfolding next_phase
next_stands point history stands over =
    let parts = used_up point.ended point.keeper (nat_lt point.given (length point.list)) over in
    by_list point history stands parts.0 parts.1 (ltb-false _ _ parts.2) (length (list_in point.setup (point.phase + 1) point.state.threads) == 0) refl
  where
    by_list : (point : Point) (history : History) → StandsIn point history → point.ended ≡ None → point.keeper ≡ None → length point.list ≤ point.given → (empty : Bool)
        → (length (list_in point.setup (point.phase + 1) point.state.threads) == 0) ≡ empty
        → Stands
        (if empty then record point { ended = Some (quiet_outcome point.state) }
        else record point { phase = point.phase + 1; first = point.done; base = point.state.memory; base_threads = point.state.threads; list = list_in point.setup (point.phase + 1) point.state.threads; given = 0 })
        history
    by_list point history stands running free used true is =
        ends point history stands running (quiet_if point history stands (no_keeper history (stands.keeper ∙ free)) used true is)
    by_list point history stands running free used false is =
        begins point history stands running free used (quiet_if point history stands (no_keeper history (stands.keeper ∙ free)) used false is) is

-- after a step in its phase the run passes on
pub passes_on : (point : Point) (history : History) → StandsIn point history → Stands (passed_on point) history
unfolding passed_on
passes_on point history stands = by_test (goes_on point) refl
  where
    by_test : (on : Bool) → goes_on point ≡ on → Stands (if on then point else next_phase point (list_in point.setup (point.phase + 1) point.state.threads)) history
    by_test true is = goes point history stands is
    by_test false is = next_stands point history stands is

-- after a step that follows
pub stands_next : (point : Point) (history : History) (step : Step) → StandsAfter point history → Invariants point → Follows point.setup history step → step.turn.phase ≡ point.phase
    → step.turn.thread ≡ thread_due (due_at point) → (point.keeper ≡ None → point.given < length point.list) → Stands (moved point step) (step ∷ history)
stands_next point history step stands holds follows same thread listed =
    passes_on (after_step point step) (step ∷ history) (stands_in point history step stands holds follows same thread listed)
