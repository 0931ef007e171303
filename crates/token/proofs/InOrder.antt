-- The threads to come in a legal history's last phase are the rest of its list, and each has a turn.
use Rattle.std.proofs.Common.{◌≡◌, ℕ, suc, Bool, true, false, List, [], ◌∷◌, ◌++◌, refl, ap, sym, ◌∙◌, inl, inr, arith, append_assoc, subst}
use Rattle.std.proofs.lemmas.List.{append_cancel_left}
use Rattle.shuffled_phases.specs.Lists.{times}
use Rattle.shuffled_phases.proofs.Times.{Each, each-behind, each-like, each-rest}
use Rattle.token.specs.Setup.{Setup, first_state}
use Rattle.token.specs.Turns.{Step}
use Rattle.token.specs.History.{History, IsNextOfList, first_version, heads, keeps, list_of, phase_of, present, thread_of, version}
use Rattle.token.specs.Legal.{Follows, IsLegal}
use Rattle.token.proofs.Dues.{IsTurnOf, turn_of_step}
use Rattle.token.proofs.SerialList.{listed_each}
use Rattle.token.proofs.Statuses.{HasTurnIn, turn_kept}
use Rattle.token.proofs.Versions.{heads_keeper, heads_next, list_of_kept, list_of_next}

-- the thread of the last turn isn't among others
abbrev pub IsApart : History → List ℕ → Type 0
IsApart [] rest = Unit {0}
IsApart (step ∷ before) rest = times step.turn.thread rest ≡ 0

-- the threads to come in the last phase: its list goes on with them, each has a turn, and none had the last one
pub record InOrder (setup : Setup) (history : History) : Type 0 where
  pub rest : List ℕ
  pub list : list_of setup history (phase_of history) ≡ heads history (phase_of history) ++ rest
  pub turns : Each (HasTurnIn setup history) rest
  pub apart : IsApart history rest

in_order_at_start : (setup : Setup) → InOrder setup []
unfolding list_of version first_version heads present
in_order_at_start setup =
    record { rest = list_of setup [] (phase_of []); list = refl; turns = listed_each setup (phase_of []) (first_state setup).threads; apart = tt }

-- the next of a list and the threads after it
pub turns_from : (setup : Setup) (history : History) (phase thread : ℕ) → IsLegal setup history → InOrder setup history
    → (next : IsNextOfList setup history phase thread) → Each (HasTurnIn setup history) (thread ∷ next.rest)
turns_from setup history phase thread legal order next =
    elim next.current [ inl here ↦ in_last setup history phase thread order next here | inr there ↦ in_new setup history phase thread legal next there.0 ]
  where
    in_last : (setup : Setup) (history : History) (phase thread : ℕ) → InOrder setup history → (next : IsNextOfList setup history phase thread)
        → phase ≡ phase_of history → Each (HasTurnIn setup history) (thread ∷ next.rest)
    in_last setup history phase thread order next here =
        let listed : list_of setup history phase ≡ heads history phase ++ order.rest =
        subst (λ p. list_of setup history p ≡ heads history p ++ order.rest) (sym here) order.list in
        let rest : order.rest ≡ thread ∷ next.rest = append_cancel_left (heads history phase) order.rest (thread ∷ next.rest) (sym listed ∙ next.next) in
        subst (Each (HasTurnIn setup history)) rest order.turns

    in_new : (setup : Setup) (history : History) (phase thread : ℕ) → IsLegal setup history → (next : IsNextOfList setup history phase thread)
        → phase ≡ suc (phase_of history) → Each (HasTurnIn setup history) (thread ∷ next.rest)
    in_new setup history phase thread legal next there =
        let listed = sym (list_of_next setup history phase legal (omega arith)) ∙ next.next in
        each-behind (HasTurnIn setup history) (heads history phase) (thread ∷ next.rest)
        (subst (Each (HasTurnIn setup history)) listed (listed_each setup phase (present setup history).threads))

-- the others that had a turn have one after a step
turns_left : (setup : Setup) (before : History) (step : Step) (rest : List ℕ) → Follows setup before step → times step.turn.thread rest ≡ 0
    → Each (HasTurnIn setup before) rest → Each (HasTurnIn setup (step ∷ before)) rest
turns_left setup before step rest follows none =
    each-like (HasTurnIn setup before) (HasTurnIn setup (step ∷ before)) rest
    (λ n some. turn_kept setup before step n follows (λ same. let one = ap (λ m. times m rest) same in omega arith))

apart_of_keeper : (history : History) (rest : List ℕ) → keeps history ≡ true → IsApart history rest → times (thread_of history) rest ≡ 0
unfolding keeps thread_of
apart_of_keeper [] rest keeper apart = cc
apart_of_keeper (step ∷ before) rest keeper apart = apart

in_order_next : (setup : Setup) (before : History) (step : Step) (keeper : Bool) → keeps before ≡ keeper → Follows setup before step → IsLegal setup before
    → InOrder setup before → IsTurnOf keeper setup before step.turn.phase step.turn.thread → InOrder setup (step ∷ before)
unfolding phase_of
in_order_next setup before step true is follows legal order due =
    let phase : ℕ = step.turn.phase in
    let listed : list_of setup before phase ≡ heads before phase ++ order.rest =
    subst (λ p. list_of setup before p ≡ heads before p ++ order.rest) (sym due.0) order.list in
    let apart : times step.turn.thread order.rest ≡ 0 = ap (λ n. times n order.rest) due.1 ∙ apart_of_keeper before order.rest is order.apart in
    record {
      rest = order.rest;
      list = list_of_kept setup before step phase (omega arith) ∙ listed ∙ ap (λ prefix. prefix ++ order.rest) (sym (heads_keeper before step phase is));
      turns = turns_left setup before step order.rest follows apart order.turns;
      apart = apart;
    }
in_order_next setup before step false is follows legal order due =
    let phase : ℕ = step.turn.phase in
    let listed : heads before phase ++ step.turn.thread ∷ due.rest ≡ heads (step ∷ before) phase ++ due.rest =
    sym (append_assoc (heads before phase) (step.turn.thread ∷ []) due.rest) ∙ ap (λ prefix. prefix ++ due.rest) (sym (heads_next before step is)) in
    let turns = each-rest (HasTurnIn setup before) step.turn.thread due.rest (turns_from setup before phase step.turn.thread legal order due) in
    record {
      rest = due.rest;
      list = list_of_kept setup before step phase (omega arith) ∙ due.next ∙ listed;
      turns = turns_left setup before step due.rest follows turns.1 turns.0;
      apart = turns.1;
    }

pub in_order : (setup : Setup) (history : History) → IsLegal setup history → InOrder setup history
unfolding IsLegal
in_order setup [] legal = in_order_at_start setup
in_order setup (step ∷ before) legal = in_order_next setup before step (keeps before) refl legal.0 legal.1 (in_order setup before legal.1) (turn_of_step setup before step legal.0)
