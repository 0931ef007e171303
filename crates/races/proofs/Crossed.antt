-- Acquisitions that are crossed, one more after another.
use Rattle.std.proofs.Common.{◌≡◌, ℕ, zero, suc, ◌+◌, ◌<◌, Bool, true, false, cond, ◌&&◌, not, ◌⊎◌, inl, inr, List, [], ◌∷◌, ◌++◌, Some, length, map, refl, sym, ◌∙◌, ap, subst, ⊎_elim, append_assoc, arith}
use Rattle.std.specs.Prelude.{◌==◌, Contains, filter, fold, slice_get}
use Rattle.std.specs.Bool.{Decides, beq}
use Rattle.std.specs.Cmp.{booleans_Decides}
use Rattle.std.specs.Cmp.Lexicographic.{pointwise}
use Rattle.std.specs.List.{list_any}
use Rattle.std.proofs.lemmas.Bool.{and_from, and_parts, cases_Bool, eq-eqb, eqb-true, or_cases, or_left, or_right}
use Rattle.std.proofs.lemmas.Grind.{fold-append}
use Rattle.std.proofs.lemmas.List.{append-nil, length_push}
use Rattle.std.proofs.lemmas.List.Folds.{Any-from_list_any, list_any-append}
use Rattle.std.proofs.lemmas.List.Elements.{Contains-append_cases, Contains-append_right, Contains-push_cases}
use Rattle.std.proofs.lemmas.Slice.Eq.{slice_eq-Decides}
use Rattle.races.specs.Firsts.{firsts, with_new}
use Rattle.races.specs.LockOrder.{Acquired, AreFaults, IsCrossing, KnowsCrossings, are_alike, are_crossed, are_same_locks, crossings_from, fault_of, faults_at, faults_in, have_gate, holds, is_same_pair, told}
use Rattle.races.specs.declared.crossings.Crossings.{Crossings}
use Rattle.races.specs.declared.held_lock.HeldLock.{HeldLock}
use Rattle.races.specs.declared.order_fault.OrderFault.{OrderFault}
use Rattle.races.proofs.FirstOf.{any_more, fold_there, made_once, new_more, new_old, none_there}

same_lock : (lock other : HeldLock) → lock.object ≡ other.object → lock.is_shared ≡ other.is_shared → lock ≡ other
same_lock lock other object shared =
    let by_object : ℕ → HeldLock = λ number. record { object = number; is_shared = lock.is_shared } in
    let by_shared : Bool → HeldLock = λ is. record { object = other.object; is_shared = is } in
    ap by_object object ∙ ap by_shared shared

pub lock_decides : (lock other : HeldLock) → Decides (are_same_locks lock other) (lock ≡ other)
lock_decides lock other = (
  λ is.
      let both = and_parts (lock.object == other.object) (beq lock.is_shared other.is_shared) is in
      same_lock lock other (eqb-true lock.object other.object both.0) ((booleans_Decides lock.is_shared other.is_shared).0 both.1),
  λ same.
      and_from (lock.object == other.object) (beq lock.is_shared other.is_shared) (eq-eqb lock.object other.object (ap (λ (one : HeldLock). one.object) same))
      ((booleans_Decides lock.is_shared other.is_shared).1 (ap (λ (one : HeldLock). one.is_shared) same)),
)

-- two that are alike have all in common but their calls
alike_parts : (one other : Acquired) → are_alike one other ≡ true → (one.call.thread ≡ other.call.thread) × (one.object ≡ other.object) × (one.held ≡ other.held)
alike_parts one other is =
    let same_held = pointwise are_same_locks one.held other.held in
    let outer = and_parts ((one.call.thread == other.call.thread) && (one.object == other.object)) same_held is in
    let inner = and_parts (one.call.thread == other.call.thread) (one.object == other.object) outer.0 in
    (eqb-true one.call.thread other.call.thread inner.0, eqb-true one.object other.object inner.1, (slice_eq-Decides lock_decides one.held other.held same_held refl).0 outer.1)

alike_crossed : (own one other : Acquired) → are_alike one other ≡ true → are_crossed one own ≡ are_crossed other own
alike_crossed own one other is =
    let crossed : ℕ → ℕ → List HeldLock → Bool =
    λ thread object held. holds own.held object && not (thread == own.call.thread) && holds held own.object && not (have_gate held own.held)
    in
    let same = alike_parts one other is in
    ap (λ (thread : ℕ). crossed thread one.object one.held) same.0
    ∙ ap (λ (object : ℕ). crossed other.call.thread object one.held) same.1
    ∙ ap (λ (held : List HeldLock). crossed other.call.thread other.object held) same.2

abbrev Pair : OrderFault → OrderFault → Type 0
Pair fault other = ((fault.held ≡ other.held) × (fault.taken ≡ other.taken)) ⊎ ((fault.held ≡ other.taken) × (fault.taken ≡ other.held))

pair_is : (fault other : OrderFault) → is_same_pair fault other ≡ true → Pair fault other
pair_is fault other is = ⊎_elim
    (λ straight. let both = and_parts (fault.held == other.held) (fault.taken == other.taken) straight in inl (eqb-true fault.held other.held both.0, eqb-true fault.taken other.taken both.1))
    (λ crossed. let both = and_parts (fault.held == other.taken) (fault.taken == other.held) crossed in inr (eqb-true fault.held other.taken both.0, eqb-true fault.taken other.held both.1))
    (or_cases ((fault.held == other.held) && (fault.taken == other.taken)) ((fault.held == other.taken) && (fault.taken == other.held)) is)

pair_from : (fault other : OrderFault) → Pair fault other → is_same_pair fault other ≡ true
pair_from fault other pair =
    let straight = (fault.held == other.held) && (fault.taken == other.taken) in
    let crossed = (fault.held == other.taken) && (fault.taken == other.held) in
    ⊎_elim
    (λ (same : (fault.held ≡ other.held) × (fault.taken ≡ other.taken)).
    or_left straight crossed (and_from (fault.held == other.held) (fault.taken == other.taken) (eq-eqb fault.held other.held same.0) (eq-eqb fault.taken other.taken same.1)))
    (λ (same : (fault.held ≡ other.taken) × (fault.taken ≡ other.held)).
    or_right straight crossed (and_from (fault.held == other.taken) (fault.taken == other.held) (eq-eqb fault.held other.taken same.0) (eq-eqb fault.taken other.held same.1)))
    pair

pub pair_refl : (fault : OrderFault) → is_same_pair fault fault ≡ true
pair_refl fault = pair_from fault fault (inl (refl, refl))

pair_trans : (one other third : OrderFault) → is_same_pair one other ≡ true → is_same_pair other third ≡ true → is_same_pair one third ≡ true
pair_trans one other third left right = pair_from one third (⊎_elim
    (λ (first : (one.held ≡ other.held) × (one.taken ≡ other.taken)). ⊎_elim
    (λ (second : (other.held ≡ third.held) × (other.taken ≡ third.taken)). inl (first.0 ∙ second.0, first.1 ∙ second.1))
    (λ (second : (other.held ≡ third.taken) × (other.taken ≡ third.held)). inr (first.0 ∙ second.0, first.1 ∙ second.1))
    (pair_is other third right))
    (λ (first : (one.held ≡ other.taken) × (one.taken ≡ other.held)). ⊎_elim
    (λ (second : (other.held ≡ third.held) × (other.taken ≡ third.taken)). inr (first.0 ∙ second.1, first.1 ∙ second.0))
    (λ (second : (other.held ≡ third.taken) × (other.taken ≡ third.held)). inl (first.0 ∙ second.1, first.1 ∙ second.0))
    (pair_is other third right))
    (pair_is one other left))

alike_pair : (own one other : Acquired) → are_alike one other ≡ true → is_same_pair (fault_of one own) (fault_of other own) ≡ true
alike_pair own one other is = pair_from (fault_of one own) (fault_of other own) (inl (refl, (alike_parts one other is).1))

crossings_more : (before after : List Acquired) (one : Acquired) → crossings_from before (after ++ one ∷ []) ≡ crossings_from before after ++ faults_at (before ++ after) one
crossings_more before [] one = append-nil (faults_at before one) ∙ ap (λ (all : List Acquired). faults_at all one) (sym (append-nil before))
crossings_more before (next ∷ after) one =
    ap (λ (rest : List OrderFault). faults_at before next ++ rest) (crossings_more (before ++ next ∷ []) after one)
    ∙ sym (append_assoc (faults_at before next) (crossings_from (before ++ next ∷ []) after) (faults_at ((before ++ next ∷ []) ++ after) one))
    ∙ ap (λ (all : List Acquired). (faults_at before next ++ crossings_from (before ++ next ∷ []) after) ++ faults_at all one) (append_assoc before (next ∷ []) after)

faults_more : (acquired : List Acquired) (one : Acquired) → faults_in (acquired ++ one ∷ []) ≡ fold (with_new is_same_pair) (faults_in acquired) (faults_at (firsts are_alike acquired) one)
faults_more acquired one =
    ap (firsts is_same_pair) (crossings_more [] acquired one)
    ∙ fold-append (with_new is_same_pair) [] (crossings_from [] acquired) (faults_at acquired one)
    ∙ made_once is_same_pair are_alike (λ first. are_crossed first one) (λ first. fault_of first one) pair_trans (alike_crossed one) (alike_pair one) (faults_in acquired) [] acquired

-- what is kept with an acquisition more
pub knows_more : (old new : Crossings) (acquired : List Acquired) (one : Acquired) → map told new.kept.items ≡ with_new are_alike (map told old.kept.items) one
    → new.faults.items ≡ fold (with_new is_same_pair) old.faults.items (faults_at (map told old.kept.items) one) → KnowsCrossings old acquired → KnowsCrossings new (acquired ++ one ∷ [])
knows_more old new acquired one kept faults knows = record {
  kept = kept ∙ ap (λ (all : List Acquired). with_new are_alike all one) knows.kept ∙ sym (fold-append (with_new are_alike) [] acquired (one ∷ []));
  faults =
      faults
      ∙ ap (λ (all : List OrderFault). fold (with_new is_same_pair) all (faults_at (map told old.kept.items) one)) knows.faults
      ∙ ap (λ (all : List Acquired). fold (with_new is_same_pair) (faults_in acquired) (faults_at all one)) knows.kept
      ∙ sym (faults_more acquired one);
}

-- what is among the first ones is among all
firsts_within : {A : Type 0} (same : A → A → Bool) (kept all : List A) (one : A) → Contains (fold (with_new same) kept all) one → Contains kept one ⊎ Contains all one
firsts_within same kept [] one among = inl among
firsts_within {A = A} same kept (first ∷ all) one among = ⊎_elim
    (λ (there : Contains (with_new same kept first) one). ⊎_elim
    (λ (old : list_any (same first) kept ≡ true). inl (subst (λ (list : List A). Contains list one) (new_old same kept first old) there))
    (λ (new : list_any (same first) kept ≡ false). ⊎_elim
    (λ (before : Contains kept one). inl before)
    (λ (is : first ≡ one). inr (0, omega arith, is))
    (Contains-push_cases kept first one (subst (λ (list : List A). Contains list one) (new_more same kept first new) there)))
    (cases_Bool (list_any (same first) kept)))
    (λ (later : Contains all one). inr (Contains-append_right (first ∷ []) all one later))
    (firsts_within same (with_new same kept first) all one among)

-- where what is made of some of them comes from
record IsMade {A X : Type 0} (p : X → Bool) (g : X → A) (xs : List X) (made : A) : Type 0 where
  index : ℕ
  from : X
  inside : index < length xs
  from_is : slice_get xs index ≡ Some from
  pass : p from ≡ true
  is : made ≡ g from

made_later : {A X : Type 0} (p : X → Bool) (g : X → A) (x : X) (xs : List X) (made : A) → IsMade p g xs made → IsMade p g (x ∷ xs) made
made_later p g x xs made was = let inside = was.inside in record { index = suc was.index; from = was.from; inside = omega arith; from_is = was.from_is; pass = was.pass; is = was.is }

made_from : {A X : Type 0} (p : X → Bool) (g : X → A) (xs : List X) (made : A) → Contains (map g (filter p xs)) made → IsMade p g xs made
made_from p g [] made among = absurd (none_there made among)
made_from {A = A} p g (x ∷ xs) made among = ⊎_elim
    (λ (yes : p x ≡ true). ⊎_elim
    (λ (first : Contains (g x ∷ []) made). ⊎_elim
    (λ (none : Contains [] made). absurd (none_there made none))
    (λ (is : g x ≡ made). record { index = 0; from = x; inside = omega arith; from_is = refl; pass = yes; is = sym is })
    (Contains-push_cases [] (g x) made first))
    (λ (rest : Contains (map g (filter p xs)) made). made_later p g x xs made (made_from p g xs made rest))
    (Contains-append_cases (g x ∷ []) (map g (filter p xs)) made
    (subst (λ (b : Bool). Contains (map g (cond b (x ∷ filter p xs) (filter p xs))) made) yes among)))
    (λ (no : p x ≡ false). made_later p g x xs made (made_from p g xs made (subst (λ (b : Bool). Contains (map g (cond b (x ∷ filter p xs) (filter p xs))) made) no among)))
    (cases_Bool (p x))

-- and what is made of one that passes is there
made_there : {A X : Type 0} (q : A → Bool) (p : X → Bool) (g : X → A) (xs : List X) (index : ℕ) (from : X) → slice_get xs index ≡ Some from → p from ≡ true → q (g from) ≡ true → list_any q (map g (filter p xs)) ≡ true
made_there q p g [] index from is pass test = absurd (cc is)
made_there q p g (x ∷ xs) zero from is pass test =
    let same : x ≡ from = cc is in
    ap (λ (b : Bool). list_any q (map g (cond b (x ∷ filter p xs) (filter p xs)))) (ap p same ∙ pass)
    ∙ or_left (q (g x)) (list_any q (map g (filter p xs))) (ap (λ one. q (g one)) same ∙ test)
made_there q p g (x ∷ xs) (suc index) from is pass test =
    let rest = made_there q p g xs index from is pass test in
    ⊎_elim
    (λ (yes : p x ≡ true).
    ap (λ (b : Bool). list_any q (map g (cond b (x ∷ filter p xs) (filter p xs)))) yes
    ∙ or_right (q (g x)) (list_any q (map g (filter p xs))) rest)
    (λ (no : p x ≡ false). ap (λ (b : Bool). list_any q (map g (cond b (x ∷ filter p xs) (filter p xs)))) no ∙ rest)
    (cases_Bool (p x))

get_left : {A : Type 0} (xs ys : List A) (index : ℕ) → index < length xs → slice_get (xs ++ ys) index ≡ slice_get xs index
get_left [] ys index inside = absurd (omega arith)
get_left (x ∷ xs) ys zero inside = refl
get_left (x ∷ xs) ys (suc index) inside = get_left xs ys index (omega arith)

get_there : {A : Type 0} (xs : List A) (x : A) (ys : List A) → slice_get (xs ++ x ∷ ys) (length xs) ≡ Some x
get_there [] x ys = refl
get_there (y ∷ xs) x ys = get_there xs x ys

-- each of the faults is one
crossing_sound : (before after : List Acquired) (fault : OrderFault) → Contains (crossings_from before after) fault → IsCrossing (before ++ after) fault
crossing_sound before [] fault among = absurd (none_there fault among)
crossing_sound before (second ∷ after) fault among = ⊎_elim
    (λ (here : Contains (faults_at before second) fault).
    let made = made_from (λ first. are_crossed first second) (λ first. fault_of first second) before fault here in
    record {
      earlier = made.index;
      later = length before;
      first = made.from;
      second = second;
      order = made.inside;
      first_is = get_left before (second ∷ after) made.index made.inside ∙ made.from_is;
      second_is = get_there before second after;
      crossed = made.pass;
      told_is = made.is;
    })
    (λ (later : Contains (crossings_from (before ++ second ∷ []) after) fault).
    subst (λ (all : List Acquired). IsCrossing all fault) (append_assoc before (second ∷ []) after) (crossing_sound (before ++ second ∷ []) after fault later))
    (Contains-append_cases (faults_at before second) (crossings_from (before ++ second ∷ []) after) fault among)

-- and of each two that are crossed there is one
crossing_there : (before after : List Acquired) (earlier later : ℕ) (first second : Acquired) → slice_get (before ++ after) earlier ≡ Some first → slice_get after later ≡ Some second → earlier < length before + later
    → are_crossed first second ≡ true → list_any (is_same_pair (fault_of first second)) (crossings_from before after) ≡ true
crossing_there before [] earlier later first second one other order crossed = absurd (cc other)
crossing_there before (next ∷ after) earlier zero first second one other order crossed =
    let same : next ≡ second = cc other in
    let inside : earlier < length before = omega arith in
    any_more (is_same_pair (fault_of first second)) (faults_at before next) (crossings_from (before ++ next ∷ []) after)
    (made_there (is_same_pair (fault_of first second)) (λ from. are_crossed from next) (λ from. fault_of from next) before earlier first (sym (get_left before (next ∷ after) earlier inside) ∙ one)
    (ap (are_crossed first) same ∙ crossed) (ap (λ (to : Acquired). is_same_pair (fault_of first second) (fault_of first to)) same ∙ pair_refl (fault_of first second)))
crossing_there before (next ∷ after) earlier (suc later) first second one other order crossed =
    let longer = length_push before next in
    let rest = crossing_there (before ++ next ∷ []) after earlier later first second (ap (λ (all : List Acquired). slice_get all earlier) (append_assoc before (next ∷ []) after) ∙ one) other (omega arith) crossed in
    list_any-append (is_same_pair (fault_of first second)) (faults_at before next) (crossings_from (before ++ next ∷ []) after)
    ∙ or_right (list_any (is_same_pair (fault_of first second)) (faults_at before next)) (list_any (is_same_pair (fault_of first second)) (crossings_from (before ++ next ∷ []) after)) rest

pub are_faults : (acquired : List Acquired) (faults : List OrderFault) → faults ≡ faults_in acquired → AreFaults acquired faults
are_faults acquired faults is = record {
  list = is;
  sound = λ fault among. ⊎_elim
      (λ (none : Contains [] fault). absurd (none_there fault none))
      (λ (there : Contains (crossings_from [] acquired) fault). crossing_sound [] acquired fault there)
      (firsts_within is_same_pair [] (crossings_from [] acquired) fault (subst (λ (all : List OrderFault). Contains all fault) is among));
  complete = λ earlier later first second order one other crossed.
      Any-from_list_any (is_same_pair (fault_of first second)) faults
      (ap (list_any (is_same_pair (fault_of first second))) is
      ∙ fold_there is_same_pair (is_same_pair (fault_of first second)) (λ x y. pair_trans (fault_of first second) x y) [] (crossings_from [] acquired) (crossing_there [] acquired earlier later first second one other (omega arith) crossed));
}
