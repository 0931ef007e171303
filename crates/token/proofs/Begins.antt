-- A run that begins stands after the history without a turn.
use Rattle.std.proofs.Common.{◌≡◌, ℕ, ◌<◌, ◌≤◌, false, not, None, List, [], ◌∷◌, length, take, refl, ap, sym, ◌∙◌, subst, inl, arith}
use Rattle.std.proofs.lemmas.Bool.{and_right, eqb-false, ne_eqb}
use Rattle.abi.specs.Limits as limit
use Rattle.shuffled_phases.proofs.Lists.{length-part}
use Rattle.shuffled_phases.specs.Phases.{choices_at_start, number_at_start}
use Rattle.thread_table.specs.Threads.{numbers_where, serial_list}
use Rattle.token.specs.Legal.{IsLegal}
use Rattle.token.specs.History.{first_version, heads, is_quiet, keeps, last_outcome, list_of, outcome, phase_of, present, same_threads, version}
use Rattle.token.specs.Point.{Point}
use Rattle.token.specs.Serial.{Invariants, StandsAfter}
use Rattle.guest_memory.specs.Memory.{Memory}
use Rattle.token.specs.Setup.{Setup, first_state, list_in}
use Rattle.call_table.specs.State.{State, started_state}
use Rattle.token.proofs.KeeperHolds.{held_by_keeper}
use Rattle.token.proofs.SerialList.{listed_part}

-- where a run begins
pub record Begins (point : Point) : Type 0 where
  pub phase : point.phase ≡ 1
  pub first : point.first ≡ 0
  pub base : point.base ≡ (first_state point.setup).memory
  pub base_threads : point.base_threads ≡ (first_state point.setup).threads
  pub list : point.list ≡ list_in point.setup point.phase point.base_threads
  pub given : point.given ≡ 0
  pub keeper : point.keeper ≡ None
  pub ended : point.ended ≡ None
  pub state : point.state ≡ first_state point.setup
  pub done : point.done ≡ 0
  pub bound : point.setup.bound ≤ limit.instructions
  pub fresh : point.fresh_from ≡ 0

not_quiet : (setup : Setup) → is_quiet setup [] ≡ false
unfolding is_quiet same_threads present first_state numbers_where
not_quiet setup = and_right (not (keeps [])) _ (and_right (same_threads (list_of setup [] (phase_of [])) (heads [] (phase_of []))) _ refl)

no_outcome_yet : (setup : Setup) → outcome setup [] ≡ None
unfolding outcome last_outcome
no_outcome_yet setup = rw (not_quiet setup) refl

one_thread : (setup : Setup) → length (serial_list (first_state setup).threads) ≡ 1
unfolding first_state numbers_where
one_thread setup = refl

somebody : (setup : Setup) (phase : ℕ) → 0 < length (list_in setup phase (first_state setup).threads)
somebody setup phase =
    let one = one_thread setup in
    let alike = length-part _ _ (listed_part setup phase (first_state setup).threads) in
    let some = eqb-false _ _ (alike ∙ ne_eqb (length (serial_list (first_state setup).threads)) 0 (λ same. omega arith)) in
    omega (arith, some)

no_heads : (given : ℕ) (list : List ℕ) → given ≡ 0 → [] ≡ take given list
no_heads given list is = subst (λ n. [] ≡ take n list) (sym is) (none list)
  where
    none : (list : List ℕ) → [] ≡ take 0 list
    none [] = refl
    none (n ∷ list) = refl

pub stands_at_start : (point : Point) → Begins point → StandsAfter point [] × Invariants point
unfolding IsLegal present first_version version heads keeps phase_of
stands_at_start point begins =
    let given = begins.given in
    let phase = begins.phase in
    let fresh = begins.fresh in
    let some = somebody point.setup point.phase in
    let long = ap length begins.list ∙ ap (λ threads. length (list_in point.setup point.phase threads)) begins.base_threads in (
      record {
        legal = tt;
        done = sym begins.done;
        state = sym begins.state;
        first = sym begins.first;
        base = sym begins.base;
        base_threads = sym begins.base_threads;
        list = sym begins.list;
        heads = no_heads point.given point.list begins.given;
        keeper = sym begins.keeper;
        ended = no_outcome_yet point.setup ∙ sym begins.ended;
        phase = inl begins.phase;
      },
      record {
        within = omega arith;
        holders = held_by_keeper point.setup [] point.state point.keeper point.ended tt (sym begins.state) (sym begins.keeper) (no_outcome_yet point.setup ∙ sym begins.ended);
        next = λ going free. omega arith;
        number = omega arith;
        bound = begins.bound;
        fresh = omega arith;
      },
    )

-- the first state of a run, by equals of what it was given
pub start_state : (state : State) (setup : Setup) (number choices : ℕ) (memory : Memory) (input : List ℕ) → state ≡ started_state setup.entry number choices memory input
    → number ≡ number_at_start setup.shuffle → choices ≡ choices_at_start setup.shuffle → memory ≡ setup.memory → input ≡ setup.input → state ≡ first_state setup
unfolding first_state
start_state state setup number choices memory input is same_number same_choices same_memory same_input =
    is ∙ ap (λ (n : ℕ). started_state setup.entry n choices memory input) same_number
    ∙ ap (λ (n : ℕ). started_state setup.entry (number_at_start setup.shuffle) n memory input) same_choices
    ∙ ap (λ (cells : Memory). started_state setup.entry (number_at_start setup.shuffle) (choices_at_start setup.shuffle) cells input) same_memory
    ∙ ap (λ (bytes : List ℕ). started_state setup.entry (number_at_start setup.shuffle) (choices_at_start setup.shuffle) setup.memory bytes) same_input
