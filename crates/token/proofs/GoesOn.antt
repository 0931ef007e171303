-- A step follows a legal history that has no outcome.
use Rattle.std.proofs.Common.{◌≡◌, ℕ, suc, ◌-◌, Bool, true, false, not, if◌then◌else◌, Option, Some, None, is_some, List, [], ◌∷◌, ◌++◌, refl, ap, sym, ◌∙◌, inl, inr, arith, append-nil, subst}
use Rattle.std.proofs.lemmas.Bool.{and_from, not_from_false}
use Rattle.shuffled_phases.proofs.Times.{Each, each-first}
use Rattle.thread_table.specs.Status.{has_turn}
use Rattle.thread_table.specs.Threads.{serial_list}
use Rattle.thread_table.specs.declared.status.Status.{Status}
use Rattle.thread_table.specs.declared.status.Status.TheVariants.{Ready, Woken, Blocked, Done}
use Rattle.token.specs.Setup.{Setup, list_in, quantum_in}
use Rattle.call_table.specs.State.{State, row_of}
use Rattle.token.specs.Turns.{Step}
use Rattle.token.specs.History.{History, IsNextOfList, heads, is_quiet, keeps, last_outcome, list_of, outcome, phase_of, present, same_threads, thread_of, version}
use Rattle.token.specs.Legal.{Follows, IsLegal, IsDue, base_of}
use Rattle.token.specs.Outcome.{quiet_outcome}
use Rattle.token.specs.declared.due.Due.{Due}
use Rattle.token.specs.declared.due.Due.TheVariants as due
use Rattle.token.specs.declared.outcome.RunOutcome.{RunOutcome}
use Rattle.token.proofs.Dues.{keeper_from, none_from}
use Rattle.token.proofs.Followers.{follower}
use Rattle.token.proofs.InOrder.{in_order}
use Rattle.token.proofs.SameThreads.{same_threads-from}
use Rattle.token.proofs.SegmentEnds.{some_end}
use Rattle.token.proofs.SerialList.{listed_each, listed_part}
use Rattle.token.proofs.Statuses.{HasTurnIn}
use Rattle.token.proofs.Versions.{heads_none, list_of_next}

-- a step that follows
abbrev Follower : Setup → History → Type 0
Follower setup history = (step : Step) × Follows setup history step

-- the keeper runs a segment, and the next of a list runs one, or takes its mutex

runs : (setup : Setup) (history : History) (phase : ℕ) (who : Due) → IsDue setup history phase who → last_outcome history ≡ None → Follower setup history
runs setup history phase (due.Fresh thread) is cut =
    let base : State = version setup history (base_of history phase (due.Fresh thread)) in
    let end = some_end (row_of base thread).hart base.memory (setup.bound - (row_of base thread).executed) (quantum_in setup phase thread base.threads) in
    (_, follower setup history phase (due.Fresh thread) end.0 is end.1 cut)
runs setup history phase (due.Keeper thread) is cut =
    let base : State = version setup history (base_of history phase (due.Keeper thread)) in
    let end = some_end (row_of base thread).hart base.memory (setup.bound - (row_of base thread).executed) None in
    (_, follower setup history phase (due.Keeper thread) end.0 is end.1 cut)
runs setup history phase (due.Woken thread mutex) is cut = (_, follower setup history phase (due.Woken thread mutex) tt is tt cut)

takes_turn : (setup : Setup) (history : History) (phase thread : ℕ) (status : Status) → (row_of (present setup history) thread).status ≡ status → has_turn status ≡ true
    → keeps history ≡ false → IsNextOfList setup history phase thread → last_outcome history ≡ None → Follower setup history
takes_turn setup history phase thread Ready is has free next cut = runs setup history phase (due.Fresh thread) (none_from history free, next, is) cut
takes_turn setup history phase thread (Woken mutex) is has free next cut = runs setup history phase (due.Woken thread mutex) (none_from history free, next, is) cut
takes_turn setup history phase thread Blocked is has free next cut = cc
takes_turn setup history phase thread (Done value) is has free next cut = cc

-- the next of the last phase, or of the one after it, where nobody keeps the token
goes_on_in : (setup : Setup) (history : History) → keeps history ≡ false → last_outcome history ≡ None → (rest : List ℕ)
    → list_of setup history (phase_of history) ≡ heads history (phase_of history) ++ rest → Each (HasTurnIn setup history) rest
    → (rest ≡ [] → Follower setup history) → Follower setup history
goes_on_in setup history next cut [] listed turns otherwise = otherwise refl
goes_on_in setup history next cut (thread ∷ rest) listed turns otherwise =
    takes_turn setup history (phase_of history) thread _ refl (each-first (HasTurnIn setup history) thread rest turns).1 next (record { rest = rest; next = listed; current = inl refl }) cut

opens_phase : (setup : Setup) (history : History) → IsLegal setup history → keeps history ≡ false → last_outcome history ≡ None → is_quiet setup history ≡ false
    → list_of setup history (phase_of history) ≡ heads history (phase_of history) → (list : List ℕ) → list_in setup (suc (phase_of history)) (present setup history).threads ≡ list → Follower setup history
unfolding is_quiet
opens_phase setup history legal next cut lively used [] empty =
    let phase : ℕ = phase_of history in
    let quiet = and_from (not (keeps history)) _ (not_from_false (keeps history) next)
    (and_from (same_threads (list_of setup history phase) (heads history phase)) (same_threads (serial_list (present setup history).threads) [])
    (same_threads-from _ _ used) (same_threads-from _ _ ((listed_part setup (suc phase) (present setup history).threads).some empty))) in
    cc
opens_phase setup history legal next cut lively used (thread ∷ rest) begins =
    let phase : ℕ = suc (phase_of history) in
    let listed : list_of setup history phase ≡ thread ∷ rest = list_of_next setup history phase legal (omega arith) ∙ begins in
    let none : heads history phase ≡ [] = heads_none setup history phase legal (omega arith) in
    let turns : Each (HasTurnIn setup history) (thread ∷ rest) = subst (Each (HasTurnIn setup history)) begins (listed_each setup phase (present setup history).threads) in
    takes_turn setup history phase thread _ refl (each-first (HasTurnIn setup history) thread rest turns).1 next
    (record { rest = rest; next = listed ∙ ap (λ prefix. prefix ++ thread ∷ rest) (sym none); current = inr (refl, used) }) cut

-- a history without an outcome wasn't ended by its last turn, and isn't quiet
no_outcome : (last : Option RunOutcome) (quiet : Bool) (there : RunOutcome) → (if is_some last then last else (if quiet then Some there else None)) ≡ None
    → (last ≡ None) × (quiet ≡ false)
no_outcome (Some ends) quiet there is = cc
no_outcome None true there is = cc
no_outcome None false there is = (refl, refl)

goes_on_by : (setup : Setup) (history : History) (keeper : Bool) → keeps history ≡ keeper → IsLegal setup history → last_outcome history ≡ None
    → is_quiet setup history ≡ false → Follower setup history
goes_on_by setup history true is legal cut lively =
    runs setup history (phase_of history) (due.Keeper (thread_of history)) (keeper_from history is, refl) cut
goes_on_by setup history false is legal cut lively =
    let order = in_order setup history legal in
    goes_on_in setup history is cut order.rest order.list order.turns
    (λ none.
    let used : list_of setup history (phase_of history) ≡ heads history (phase_of history) =
    order.list ∙ ap (λ rest. heads history (phase_of history) ++ rest) none ∙ append-nil (heads history (phase_of history)) in
    opens_phase setup history legal is cut lively used (list_in setup (suc (phase_of history)) (present setup history).threads) refl)

pub some_follows : (setup : Setup) (history : History) → IsLegal setup history → outcome setup history ≡ None → (step : Step) × Follows setup history step
unfolding outcome
some_follows setup history legal is =
    let parts = no_outcome (last_outcome history) (is_quiet setup history) (quiet_outcome (present setup history)) is in
    goes_on_by setup history (keeps history) refl legal parts.0 parts.1
