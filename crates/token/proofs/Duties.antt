-- Who is due where a run stands.
use Rattle.std.proofs.Common.{◌≡◌, ℕ, zero, suc, ◌<◌, Bool, true, false, Option, Some, None, List, [], ◌∷◌, ◌++◌, length, get_or, take, drop, refl, ap, sym, ◌∙◌, subst, inl, inr, arith}
use Rattle.std.specs.Prelude.{All, slice_index}
use Rattle.call_table.specs.State.{State, row_of}
use Rattle.shuffled_phases.proofs.Times.{times-at}
use Rattle.thread_table.specs.Status.{has_turn}
use Rattle.thread_table.specs.declared.status.Status.{Status}
use Rattle.thread_table.specs.declared.status.Status.TheVariants.{Ready, Woken, Blocked, Done}
use Rattle.thread_table.specs.declared.thread.Thread.{Thread}
use Rattle.token.specs.Due.{thread_due}
use Rattle.token.specs.History.{History, IsNextOfList, keeper_of, phase_of, present}
use Rattle.token.specs.Legal.{IsDue}
use Rattle.token.specs.Point.{Point, base_at, due_at, due_by, due_next}
use Rattle.token.specs.RunInTurn.{HasDue}
use Rattle.token.specs.Serial.{Invariants, StandsAfter}
use Rattle.token.specs.Setup.{Setup, list_in}
use Rattle.token.specs.declared.due.Due.{Due}
use Rattle.token.proofs.Dues.{keeper_is}
use Rattle.token.proofs.SerialList.{listed_each}
use Rattle.token.proofs.Standing.{list_is}
use Rattle.token.proofs.TurnThere.{due_present, next_has_turn}

-- the threads of a list are there

all_below : (setup : Setup) (phase : ℕ) (threads : List Thread) → All (λ n. n < length threads) (list_in setup phase threads)
all_below setup phase threads place d below =
    ((listed_each setup phase threads).holds (get_or (list_in setup phase threads) place d) (times-at (list_in setup phase threads) place d below)).0

pub all_listed : (point : Point) (history : History) → StandsAfter point history → All (λ n. n < length point.base_threads) point.list
all_listed point history stands = subst (All (λ n. n < length point.base_threads)) stands.list (all_below point.setup point.phase point.base_threads)

-- the next of the list

prefix_and_rest : (n : ℕ) (list : List ℕ) → n < length list → list ≡ take n list ++ slice_index list n ∷ drop (suc n) list
prefix_and_rest n [] below = absurd (omega arith)
prefix_and_rest zero (m ∷ list) below = refl
prefix_and_rest (suc n) (m ∷ list) below = ap (λ rest. m ∷ rest) (prefix_and_rest n list (omega arith))

next_due : (point : Point) (history : History) → StandsAfter point history → point.given < length point.list → IsNextOfList point.setup history point.phase (slice_index point.list point.given)
next_due point history stands below =
    record {
      rest = drop (suc point.given) point.list;
      next =
          list_is point.setup history point.phase point.first point.base_threads point.list stands.first stands.base_threads stands.list
          ∙ prefix_and_rest point.given point.list below ∙ ap (λ prefix. prefix ++ slice_index point.list point.given ∷ drop (suc point.given) point.list) (sym stands.heads);
      current = elim stands.phase [ inl here ↦ inl here | inr there ↦ inr (there.0, there.2) ];
    }

-- by its status it is fresh or woken
next_is : (setup : Setup) (history : History) (phase next : ℕ) (status : Status) → keeper_of history ≡ None → IsNextOfList setup history phase next
    → (row_of (present setup history) next).status ≡ status → has_turn status ≡ true → IsDue setup history phase (due_next next status)
next_is setup history phase next Ready free listed is has = (free, listed, is)
next_is setup history phase next (Woken mutex) free listed is has = (free, listed, is)
next_is setup history phase next Blocked free listed is has = cc
next_is setup history phase next (Done value) free listed is has = cc

due_by_is : (point : Point) (history : History) → StandsAfter point history → (keeper : Option ℕ) → point.keeper ≡ keeper → (keeper ≡ None → point.given < length point.list)
    → IsDue point.setup history point.phase (due_by keeper point.state (slice_index point.list point.given))
due_by_is point history stands (Some thread) is listed =
    let kept = keeper_is history thread (stands.keeper ∙ is) in
    let phase : point.phase ≡ phase_of history = elim stands.phase [ inl here ↦ here | inr there ↦ absurd (both kept.0 there.1) ] in
    (stands.keeper ∙ is, phase)
  where
    both : {one : Bool} → one ≡ true → one ≡ false → ⊥
    both holds fails = cc
due_by_is point history stands None is listed =
    let next : ℕ = slice_index point.list point.given in
    let due = next_due point history stands (listed refl) in
    let status = ap (λ (state : State). (row_of state next).status) stands.state in
    let has = next_has_turn point.setup history point.phase next stands.legal due in
    next_is point.setup history point.phase next (row_of point.state next).status (stands.keeper ∙ is) due status (sym (ap has_turn status) ∙ has.1)

pub due_is : (point : Point) (history : History) → StandsAfter point history → Invariants point → point.ended ≡ None → IsDue point.setup history point.phase (due_at point)
unfolding due_at
due_is point history stands holds going = due_by_is point history stands point.keeper refl (holds.next going)

-- it is there

now_there : (point : Point) (history : History) → StandsAfter point history → (who : Due) → IsDue point.setup history point.phase who → thread_due who < length point.state.threads
now_there point history stands who is =
    subst (λ (state : State). thread_due who < length state.threads) stands.state (due_present point.setup history point.phase who stands.legal is)

next_there : (point : Point) (history : History) → StandsAfter point history → point.given < length point.list → slice_index point.list point.given < length point.state.threads
next_there point history stands below =
    let has = next_has_turn point.setup history point.phase (slice_index point.list point.given) stands.legal (next_due point history stands below) in
    subst (λ (state : State). slice_index point.list point.given < length state.threads) stands.state has.0

listed_there : (point : Point) (history : History) → StandsAfter point history → point.given < length point.list → slice_index point.list point.given < length point.base_threads
listed_there point history stands below =
    all_listed point history stands point.given 0 below

base_there : (point : Point) (history : History) → StandsAfter point history → (keeper : Option ℕ) → (keeper ≡ None → point.given < length point.list)
    → let who : Due = due_by keeper point.state (slice_index point.list point.given) in thread_due who < length point.state.threads → thread_due who < length (base_at point who).threads
base_there point history stands (Some thread) listed now = now
base_there point history stands None listed now = by_status (row_of point.state (slice_index point.list point.given)).status (listed_there point history stands (listed refl)) (next_there point history stands (listed refl))
  where
    by_status : (status : Status) → slice_index point.list point.given < length point.base_threads → slice_index point.list point.given < length point.state.threads
        → let who : Due = due_next (slice_index point.list point.given) status in thread_due who < length (base_at point who).threads
    by_status Ready first last = first
    by_status (Woken mutex) first last = last
    by_status Blocked first last = first
    by_status (Done value) first last = first

pub has_due : (point : Point) (history : History) → StandsAfter point history → Invariants point → point.ended ≡ None → HasDue point
unfolding due_at
has_due point history stands holds going =
    let now = now_there point history stands (due_at point) (due_is point history stands holds going) in
    record {
      listed = holds.next going;
      now_there = now;
      next_there = λ free. next_there point history stands (holds.next going free);
      base_there = base_there point history stands point.keeper (holds.next going) now;
    }
