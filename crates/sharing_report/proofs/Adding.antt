-- What the tallies of a page come to with one turn, thread or mark more.
use Rattle.std.proofs.Common.{◌≡◌, ◌≢◌, ℕ, suc, ◌+◌, ◌<◌, ◌≤◌, ◌||◌, ◌&&◌, not, Bool, true, false, cond, Option, Some, None, List, [], ◌∷◌, ◌++◌, length, map, filter, set, refl, sym, ◌∙◌, ap, subst, eqb, leb, arith, length-append, ⊎_elim}
use Rattle.std.specs.Prelude.{slice_index_or}
use Rattle.std.specs.Cmp.{IsEquivalence, nat_eq_equiv}
use Rattle.std.specs.List.{All, list_any}
use Rattle.std.specs.Set.{distinct_count, is_member}
use Rattle.std.proofs.lemmas.Bool.{and_from, and_parts, cases_eq, eqb-true, eq-eqb, ne_eqb, or_cases}
use Rattle.std.proofs.lemmas.List.{get_or-set_same, get_or-set_other}
use Rattle.std.proofs.lemmas.List.Elements.{All-contains, All-head, All-push, All-tail, Contains-push}
use Rattle.std.proofs.lemmas.List.Folds.{list_any_none}
use Rattle.sharing_report.specs.Changers.{IsChanger, is_among, two_of}
use Rattle.sharing_report.specs.Contested.{threads_at}
use Rattle.sharing_report.specs.Sharing.{count_of_different, same_spot}
use Rattle.sharing_report.specs.Tallies.{IsLast}
use Rattle.sharing_report.specs.declared.changer.Changer.{Changer}
use Rattle.sharing_report.specs.declared.changer.Changer.TheVariants.{Nobody, One, Several}
use Rattle.sharing_report.specs.declared.mark.Mark.{Mark}
use Rattle.sharing_report.specs.declared.mark.PhaseAddress.{PhaseAddress}
use Rattle.sharing_report.proofs.Counted.{distinct_count-snoc, member-snoc, one_alone, two_of-more}
use Rattle.sharing_report.proofs.Neighbours.{filter_none}

-- changers

-- the first thread
pub first_changer : (threads : List ℕ) (thread : ℕ) → threads ≡ [] → IsChanger (One thread) (threads ++ thread ∷ [])
first_changer threads thread none other =
    ap (λ (all : List ℕ). is_among (all ++ thread ∷ []) other) none ∙ by_test (eqb other thread)
  where
    by_test : (b : Bool) → (b || false) ≡ b
    by_test true = refl
    by_test false = refl

pub first_not_second : (threads : List ℕ) (thread : ℕ) → threads ≡ [] → false ≡ (not (two_of threads) && two_of (threads ++ thread ∷ []))
first_not_second threads thread none = sym (ap (λ (all : List ℕ). not (two_of all) && two_of (all ++ thread ∷ [])) none)

two_of_one : (threads : List ℕ) (thread : ℕ) → IsChanger (One thread) threads → two_of threads ≡ false
two_of_one threads thread one = ap (leb 2) (one_alone threads thread one)

-- the same thread once more
pub same_changer : (threads : List ℕ) (thread : ℕ) → IsChanger (One thread) threads → IsChanger (One thread) (threads ++ thread ∷ [])
same_changer threads thread one other =
    member-snoc nat_eq_equiv threads thread other ∙ ap (λ (b : Bool). b || eqb other thread) (one other) ∙ by_test (eqb other thread)
  where
    by_test : (b : Bool) → (b || b) ≡ b
    by_test true = refl
    by_test false = refl

pub same_not_second : (threads : List ℕ) (thread : ℕ) → IsChanger (One thread) threads → false ≡ (not (two_of threads) && two_of (threads ++ thread ∷ []))
same_not_second threads thread one =
    let before : two_of threads ≡ false = two_of_one threads thread one in
    let after : two_of (threads ++ thread ∷ []) ≡ false = two_of_one (threads ++ thread ∷ []) thread (same_changer threads thread one) in
    sym (ap (λ (b : Bool). not b && two_of (threads ++ thread ∷ [])) before ∙ after)

-- another thread
pub other_changer : (threads : List ℕ) (one thread : ℕ) → IsChanger (One one) threads → (one ≡ thread → ⊥) → two_of (threads ++ thread ∷ []) ≡ true
other_changer threads one thread is other =
    let apart : is_member eqb threads thread ≡ false = is thread ∙ ne_eqb thread one (λ same. other (sym same)) in
    ap (leb 2) (distinct_count-snoc nat_eq_equiv threads thread ∙ ap (λ (b : Bool). cond b (distinct_count eqb threads) (suc (distinct_count eqb threads))) apart ∙ ap suc (one_alone threads one is))

pub other_is_second : (threads : List ℕ) (one thread : ℕ) → IsChanger (One one) threads → (one ≡ thread → ⊥) → true ≡ (not (two_of threads) && two_of (threads ++ thread ∷ []))
other_is_second threads one thread is other =
    let before : two_of threads ≡ false = two_of_one threads one is in
    sym (ap (λ (b : Bool). not b && two_of (threads ++ thread ∷ [])) before ∙ other_changer threads one thread is other)

-- one of several threads
pub several_not_second : (threads : List ℕ) (thread : ℕ) → two_of threads ≡ true → false ≡ (not (two_of threads) && two_of (threads ++ thread ∷ []))
several_not_second threads thread two = sym (ap (λ (b : Bool). not b && two_of (threads ++ thread ∷ [])) two)

-- turns

-- a number above all others isn't among them
pub above_all : (numbers : List ℕ) (bound number : ℕ) → All (λ other. other ≤ bound) numbers → bound < number → is_among numbers number ≡ false
above_all numbers bound number below above =
    list_any_none (eqb number) numbers (λ k d inside. let at = below k d inside in ne_eqb number (slice_index_or numbers k d) (λ same. omega arith))

-- one that is among others is no greater than a bound of them
pub within : (numbers : List ℕ) (bound number : ℕ) → All (λ other. other ≤ bound) numbers → is_among numbers number ≡ true → number ≤ bound
within [] bound number below here = cc
within (first ∷ numbers) bound number below here =
    ⊎_elim (λ same. let equal : number ≡ first = eqb-true number first same in let head : first ≤ bound = All-head (λ other. other ≤ bound) first numbers below in omega arith)
    (λ later. within numbers bound number (All-tail (λ other. other ≤ bound) first numbers below) later)
    (or_cases (eqb number first) (is_among numbers number) here)

-- the same turn once more
pub same_turn : (turns : List ℕ) (turn : ℕ) → IsLast (Some turn) turns → IsLast (Some turn) (turns ++ turn ∷ [])
same_turn turns turn last = (
  member-snoc nat_eq_equiv turns turn turn ∙ ap (λ (b : Bool). b || eqb turn turn) last.0,
  All-push (λ other. other ≤ turn) turns turn last.1 (omega arith),
)

pub same_turn_count : (turns : List ℕ) (turn : ℕ) → is_among turns turn ≡ true → count_of_different (turns ++ turn ∷ []) ≡ count_of_different turns
same_turn_count turns turn here =
    distinct_count-snoc nat_eq_equiv turns turn ∙ ap (λ (b : Bool). cond b (distinct_count eqb turns) (suc (distinct_count eqb turns))) here

-- a new one
pub new_count : (numbers : List ℕ) (number : ℕ) → is_among numbers number ≡ false → count_of_different (numbers ++ number ∷ []) ≡ suc (count_of_different numbers)
new_count numbers number apart =
    distinct_count-snoc nat_eq_equiv numbers number ∙ ap (λ (b : Bool). cond b (distinct_count eqb numbers) (suc (distinct_count eqb numbers))) apart

pub new_turn : (turns : List ℕ) (turn : ℕ) → All (λ other. other ≤ turn) turns → IsLast (Some turn) (turns ++ turn ∷ [])
new_turn turns turn below = (
  member-snoc nat_eq_equiv turns turn turn ∙ ap (λ (b : Bool). is_among turns turn || b) (eq-eqb turn turn refl) ∙ or_true (is_among turns turn),
  All-push (λ other. other ≤ turn) turns turn below (omega arith),
)
  where
    or_true : (b : Bool) → (b || true) ≡ true
    or_true true = refl
    or_true false = refl

-- a turn that isn't the last one is new
pub is_new : (last : Option ℕ) (turns : List ℕ) (turn : ℕ) → IsLast last turns → All (λ other. other ≤ turn) turns → (last ≡ Some turn → ⊥) → is_among turns turn ≡ false
is_new None turns turn none below other = ap (λ (all : List ℕ). is_among all turn) none
is_new (Some before) turns turn last below other =
    let upto : before ≤ turn = within turns turn before below last.0 in
    let apart : before ≡ turn → ⊥ = λ same. other (ap Some same) in
    above_all turns before turn last.1 (omega arith)

-- threads

-- a thread that is in the set once more
pub member_again : (threads : List ℕ) (thread : ℕ) → is_among threads thread ≡ true → (other : ℕ) → is_among (threads ++ thread ∷ []) other ≡ is_among threads other
member_again threads thread here other = member-snoc nat_eq_equiv threads thread other ∙ by_test (eqb other thread) refl
  where
    by_test : (b : Bool) → eqb other thread ≡ b → (is_among threads other || b) ≡ is_among threads other
    by_test true same =
        let there : is_among threads other ≡ true = subst (λ (n : ℕ). is_among threads n ≡ true) (sym (eqb-true other thread same)) here in
        ap (λ (b : Bool). b || true) there ∙ sym there
    by_test false apart = by_value (is_among threads other)
      where
        by_value : (b : Bool) → (b || false) ≡ b
        by_value true = refl
        by_value false = refl

-- one that comes into it
pub member_more : (has : List Bool) (threads : List ℕ) (thread : ℕ) → length has ≡ 256 → thread < 256 → ((other : ℕ) → other < 256 → slice_index_or has other false ≡ is_among threads other)
    → (other : ℕ) → other < 256 → slice_index_or (set has thread true) other false ≡ is_among (threads ++ thread ∷ []) other
member_more has threads thread full small members other within_set =
    ⊎_elim here apart (cases_eq other thread)
  where
    here : other ≡ thread → slice_index_or (set has thread true) other false ≡ is_among (threads ++ thread ∷ []) other
    here same =
        ap (λ (n : ℕ). slice_index_or (set has thread true) n false) same
        ∙ get_or-set_same has thread true false (omega arith)
        ∙ sym (member-snoc nat_eq_equiv threads thread other ∙ ap (λ (b : Bool). is_among threads other || b) (eq-eqb other thread same) ∙ or_true (is_among threads other))
      where
        or_true : (b : Bool) → (b || true) ≡ true
        or_true true = refl
        or_true false = refl

    apart : (other ≡ thread → ⊥) → slice_index_or (set has thread true) other false ≡ is_among (threads ++ thread ∷ []) other
    apart different =
        get_or-set_other has thread other true false different
        ∙ members other within_set
        ∙ sym (member-snoc nat_eq_equiv threads thread other ∙ ap (λ (b : Bool). is_among threads other || b) (ne_eqb other thread different) ∙ or_false (is_among threads other))
      where
        or_false : (b : Bool) → (b || false) ≡ b
        or_false true = refl
        or_false false = refl

-- marks

-- no thread at a phase after those of all marks
pub none_after : (marks : List (Mark ℕ)) (last phase : ℕ) → All (λ mark. mark.place ≤ last) marks → last < phase → threads_at eqb marks phase ≡ []
none_after marks last phase upto after =
    ap (map (λ (mark : Mark ℕ). mark.thread)) (filter_none (λ (mark : Mark ℕ). eqb phase mark.place) marks
    (list_any_none (λ (mark : Mark ℕ). eqb phase mark.place) marks (λ k d inside. let at = upto k d inside in ne_eqb phase (slice_index_or marks k d).place (λ same. omega arith))))

-- nor at a place of it
pub none_at_after : (marks : List (Mark PhaseAddress)) (last phase address : ℕ) → All (λ mark. mark.place.phase ≤ last) marks → last < phase
    → threads_at same_spot marks (record { phase = phase; address = address }) ≡ []
none_at_after marks last phase address upto after =
    ap (map (λ (mark : Mark PhaseAddress). mark.thread)) (filter_none (λ (mark : Mark PhaseAddress). same_spot (record { phase = phase; address = address }) mark.place) marks
    (list_any_none (λ (mark : Mark PhaseAddress). same_spot (record { phase = phase; address = address }) mark.place) marks
    (λ k d inside. let at = upto k d inside in
    ap (λ (b : Bool). b && eqb address (slice_index_or marks k d).place.address) (ne_eqb phase (slice_index_or marks k d).place.phase (λ same. omega arith)))))

-- the last of a list
pub All-last : {X : Type 0} (P : X → Type 0) (xs : List X) (x : X) → All P (xs ++ x ∷ []) → P x
All-last P xs x all = All-contains P (xs ++ x ∷ []) x all (Contains-push xs x)

-- how a count goes on
pub counted_on : (count new : ℕ) (second test : Bool) (all more : ℕ) → count ≡ all → second ≡ test → more ≡ all + cond test 1 0 → new ≡ count + cond second 1 0 → new ≡ more
counted_on count new second test all more is told grew stepped =
    stepped ∙ ap (λ (b : Bool). count + cond b 1 0) told ∙ ap (λ (n : ℕ). n + cond test 1 0) is ∙ sym grew

-- spots are alike as their parts are
pub spot_laws : IsEquivalence same_spot
spot_laws = record {
  refl = λ x. and_from (eqb x.phase x.phase) (eqb x.address x.address) (eq-eqb x.phase x.phase refl) (eq-eqb x.address x.address refl);
  symm = λ x y.
      ap (λ (b : Bool). b && eqb x.address y.address) (nat_eq_equiv.symm x.phase y.phase)
      ∙ ap (λ (b : Bool). eqb y.phase x.phase && b) (nat_eq_equiv.symm x.address y.address);
  congr = λ x y z same.
      let parts = and_parts (eqb x.phase y.phase) (eqb x.address y.address) same in
      ap (λ (b : Bool). b && eqb x.address z.address) (nat_eq_equiv.congr x.phase y.phase z.phase parts.0)
      ∙ ap (λ (b : Bool). eqb y.phase z.phase && b) (nat_eq_equiv.congr x.address y.address z.address parts.1);
}
