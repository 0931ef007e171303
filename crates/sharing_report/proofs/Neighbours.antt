use Rattle.std.proofs.Common.{◌≡◌, ℕ, suc, ◌||◌, ◌&&◌, not, Bool, true, false, cond, List, [], ◌∷◌, length, map, filter, refl, sym, ◌∙◌, ap, eqb, leb, arith}
use Rattle.std.specs.Prelude.{slice_index_or}
use Rattle.std.specs.Cmp.{IsEquivalence, IsTotalOrder, nat_eq_equiv}
use Rattle.std.specs.List.{list_any, IsDistinct, zip}
use Rattle.std.specs.List.Sorted.{IsSortedByKey, IsStableByKey}
use Rattle.std.specs.Ordering.{eq_by_cmp, is_lt, is_eq, ordering_reverse}
use Rattle.std.specs.declared.cmp.Ordering.{Ordering}
use Rattle.std.specs.declared.cmp.Ordering.TheVariants.{Less, Equal, Greater}
use Rattle.std.specs.Set.{distinct_count, is_member, unique_keys}
use Rattle.std.proofs.lemmas.Bool.{le-leb}
use Rattle.std.proofs.lemmas.List.Elements.{filter_agree, All-from_get_or}
use Rattle.std.proofs.lemmas.List.Folds.{list_any_none}
use Rattle.std.proofs.lemmas.List.Sorted.{ranks_by, sorted_far}
use Rattle.std.proofs.lemmas.Map.Made.{length-le_from_is_member, is_member-filter}
use native.Mathlib.Numerals.{unary_clauses}
use Rattle.sharing_report.specs.Contested.{threads_at, is_contested, contested_count, contested_neighbours}
use Rattle.sharing_report.specs.declared.mark.Mark.{Mark}
use Rattle.sharing_report.proofs.Distinct.{member-unique, distinct_count-same}
use Rattle.sharing_report.proofs.Stable.{filter-stable}

-- at least two different numbers
abbrev two_of : List ℕ → Bool
two_of numbers = leb 2 (distinct_count eqb numbers)

longer : (a b c : Bool) → (a || (b || false)) ≡ true → (a || (b || c)) ≡ true
longer true b c h = refl
longer false true c h = refl
longer false false c h = absurd (cc)

-- numbers of which the first two differ
two-different : (t u : ℕ) (ts : List ℕ) → eqb t u ≡ false → two_of (t ∷ u ∷ ts) ≡ true
unfolding IsDistinct
two-different t u ts apart =
    le-leb 2 (length (unique_keys eqb (t ∷ u ∷ ts)))
    (length-le_from_is_member nat_eq_equiv (t ∷ u ∷ []) (unique_keys eqb (t ∷ u ∷ ts)) ((apart, tt), (tt, tt))
    (λ q found. member-unique nat_eq_equiv (t ∷ u ∷ ts) q ∙ longer (eqb q t) (eqb q u) (is_member eqb ts q) found))

-- a test that no element passes keeps none
pub filter_none : {X : Type 0} (p : X → Bool) (xs : List X) → list_any p xs ≡ false → filter p xs ≡ []
filter_none p [] none = refl
filter_none p (x ∷ xs) none = step (p x) none (filter_none p xs)
  where
    step : (b : Bool) → (b || list_any p xs) ≡ false → (list_any p xs ≡ false → filter p xs ≡ []) → cond b (x ∷ filter p xs) (filter p xs) ≡ []
    step true h rest = absurd (cc)
    step false h rest = rest h

list_any-map : {X Y : Type 0} (p : Y → Bool) (f : X → Y) (xs : List X) → list_any p (map f xs) ≡ list_any (λ x. p (f x)) xs
list_any-map p f [] = refl
list_any-map p f (x ∷ xs) = ap (λ (b : Bool). p (f x) || b) (list_any-map p f xs)

module _ {K : Type 0} {eq : K → K → Bool} (laws : IsEquivalence eq) where
  -- the contested neighbours among marks after one
  abbrev neighbours_after : Mark K → List (Mark K) → List K
  neighbours_after before [] = []
  neighbours_after before (mark ∷ marks) =
      cond (eq before.place mark.place && not (eqb before.thread mark.thread)) (mark.place ∷ neighbours_after mark marks) (neighbours_after mark marks)

  -- marks at one place stand side by side
  abbrev Runs : Mark K → List (Mark K) → Type 0
  Runs x [] = Unit {0}
  Runs x (y ∷ rest) = (eq x.place y.place ≡ false → list_any (λ mark. eq x.place mark.place) (y ∷ rest) ≡ false) × Runs y rest

  single : (b : Bool) (x : Mark K) → false ≡ two_of (map (λ mark. mark.thread) (cond b (x ∷ []) []))
  single true x = refl
  single false x = refl

  -- the keys at one place, seen from another key there
  pub at_same : (q x : K) (marks : List (Mark K)) → eq q x ≡ true →
      filter (λ (mark : Mark K). eq q mark.place) marks ≡ filter (λ (mark : Mark K). eq x mark.place) marks
  at_same q x marks equal = filter_agree (λ (mark : Mark K). eq q mark.place) (λ (mark : Mark K). eq x mark.place) (λ mark. laws.congr q x mark.place equal) marks

  -- the contested neighbours and the threads with one mark more, by whether it stands at the place, at the next mark's place, with its thread
  abbrev left : (q : K) (y : Mark K) (rest : List (Mark K)) (tied same : Bool) → Bool
  left q y rest tied same = is_member eq (cond (tied && not same) (y.place ∷ neighbours_after y rest) (neighbours_after y rest)) q

  abbrev right : (q : K) (x : Mark K) (marks : List (Mark K)) (here : Bool) → Bool
  right q x marks here = two_of (map (λ mark. mark.thread) (cond here (x ∷ filter (λ mark. eq q mark.place) marks) (filter (λ mark. eq q mark.place) marks)))

  off_place : (q : K) (x y : Mark K) (rest : List (Mark K)) → eq q x.place ≡ false → eq x.place y.place ≡ true → eq q y.place ≡ false
  off_place q x y rest away tied =
      laws.symm q y.place ∙ sym (laws.congr x.place y.place q tied) ∙ laws.symm x.place q ∙ away

  by_cases : (q : K) (x y : Mark K) (rest : List (Mark K)) →
      is_member eq (neighbours_after y rest) q ≡ two_of (threads_at eq (y ∷ rest) q) →
      (eq x.place y.place ≡ false → list_any (λ mark. eq x.place mark.place) (y ∷ rest) ≡ false) →
      (here tied same : Bool) → eq q x.place ≡ here → eq x.place y.place ≡ tied → eqb x.thread y.thread ≡ same →
      left q y rest tied same ≡ right q x (y ∷ rest) here
  by_cases q x y rest later alone false false same eh et es = later
  by_cases q x y rest later alone false true true eh et es = later
  by_cases q x y rest later alone false true false eh et es =
      ap (λ (b : Bool). b || is_member eq (neighbours_after y rest) q) (off_place q x y rest eh et) ∙ later
  by_cases q x y rest later alone true false same eh et es =
      let none : filter (λ mark. eq q mark.place) (y ∷ rest) ≡ [] = at_same q x.place (y ∷ rest) eh ∙ filter_none (λ mark. eq x.place mark.place) (y ∷ rest) (alone et) in
      later
      ∙ ap (λ (marks : List (Mark K)). two_of (map (λ mark. mark.thread) marks)) none
      ∙ sym (ap (λ (marks : List (Mark K)). two_of (map (λ mark. mark.thread) (x ∷ marks))) none)
  by_cases q x y rest later alone true true false eh et es =
      let there : eq q y.place ≡ true = laws.congr q x.place y.place eh ∙ et in
      let after : List (Mark K) = filter (λ mark. eq q mark.place) rest in
      ap (λ (b : Bool). b || is_member eq (neighbours_after y rest) q) there
      ∙ sym (two-different x.thread y.thread (map (λ mark. mark.thread) after) es)
      ∙ sym (ap (λ (b : Bool). two_of (map (λ mark. mark.thread) (x ∷ cond b (y ∷ after) after))) there)
  by_cases q x y rest later alone true true true eh et es =
      let there : eq q y.place ≡ true = laws.congr q x.place y.place eh ∙ et in
      let after : List (Mark K) = filter (λ mark. eq q mark.place) rest in
      let threads : List ℕ = map (λ mark. mark.thread) after in
      later
      ∙ ap (λ (b : Bool). two_of (map (λ mark. mark.thread) (cond b (y ∷ after) after))) there
      ∙ sym (ap (λ (b : Bool). leb 2 (length (cond (b || is_member eqb threads x.thread) (unique_keys eqb (y.thread ∷ threads)) (x.thread ∷ unique_keys eqb (y.thread ∷ threads))))) es)
      ∙ sym (ap (λ (b : Bool). two_of (map (λ mark. mark.thread) (x ∷ cond b (y ∷ after) after))) there)

  -- a place is among the contested neighbours where at least two threads have a mark there
  member-after : (q : K) (x : Mark K) (rest : List (Mark K)) → Runs x rest →
      is_member eq (neighbours_after x rest) q ≡ two_of (threads_at eq (x ∷ rest) q)
  member-after q x [] runs = single (eq q x.place) x
  member-after q x (y ∷ rest) runs =
      by_cases q x y rest (member-after q y rest runs.1) runs.0 (eq q x.place) (eq x.place y.place) (eqb x.thread y.thread) refl refl refl

  -- the contested neighbours after a first mark
  neighbours-cons : (x : Mark K) (rest : List (Mark K)) → contested_neighbours eq (x ∷ rest) ≡ neighbours_after x rest
  unfolding contested_neighbours
  neighbours-cons x [] = refl
  neighbours-cons x (y ∷ rest) = step (eq x.place y.place && not (eqb x.thread y.thread)) (neighbours-cons y rest)
    where
      step : (b : Bool) → contested_neighbours eq (y ∷ rest) ≡ neighbours_after y rest → map (λ (pair : Mark K × Mark K). pair.1.place) (cond b ((x, y) ∷ filter (λ (pair : Mark K × Mark K). eq pair.0.place pair.1.place && not (eqb pair.0.thread pair.1.thread)) (zip (y ∷ rest) rest)) (filter (λ (pair : Mark K × Mark K). eq pair.0.place pair.1.place && not (eqb pair.0.thread pair.1.thread)) (zip (y ∷ rest) rest)))
          ≡ cond b (y.place ∷ neighbours_after y rest) (neighbours_after y rest)
      step true same = ap (λ (places : List K). y.place ∷ places) same
      step false same = same

  -- a contested place is the place of a mark
  pub contested_there : (marks : List (Mark K)) (q : K) → (is_member eq (map (λ mark. mark.place) marks) q && is_contested eq marks q) ≡ is_contested eq marks q
  contested_there marks q = step (is_member eq (map (λ mark. mark.place) marks) q) refl
    where
      step : (b : Bool) → is_member eq (map (λ mark. mark.place) marks) q ≡ b → (b && is_contested eq marks q) ≡ is_contested eq marks q
      step true e = refl
      step false e =
          let none : filter (λ mark. eq q mark.place) marks ≡ [] = filter_none (λ mark. eq q mark.place) marks (sym (list_any-map (eq q) (λ (mark : Mark K). mark.place) marks) ∙ e) in
          sym (ap (λ (kept : List (Mark K)). two_of (map (λ mark. mark.thread) kept)) none)

  module _ {cmp : K → K → Ordering} (o : IsTotalOrder cmp) (ties : (x y : K) → eq x y ≡ eq_by_cmp cmp x y) where
    -- of three keys that do not fall the first is apart from the third where it is from the second
    apart_beyond : (a b c : K) (first third : Ordering) → cmp a b ≡ first → cmp a c ≡ third →
        is_lt (cmp b a) ≡ false → eq_by_cmp cmp a b ≡ false → is_lt (cmp c b) ≡ false → is_eq (cmp a c) ≡ false
    apart_beyond a b c first Less ef et up apart on = ap is_eq et
    apart_beyond a b c first Greater ef et up apart on = ap is_eq et
    apart_beyond a b c Equal Equal ef et up apart on = let no : is_eq Equal ≡ false = sym (ap is_eq ef) ∙ apart in absurd (cc)
    apart_beyond a b c Greater Equal ef et up apart on =
        let no : is_lt (ordering_reverse Greater) ≡ false = sym (ap is_lt (o.antisymm b a ∙ ap ordering_reverse ef)) ∙ up in absurd (cc)
    apart_beyond a b c Less Equal ef et up apart on =
        let no : is_lt Less ≡ false = sym (ap is_lt (sym (o.congr a c b et) ∙ ef)) ∙ on in absurd (cc)

    sorted_tail : (x : Mark K) (marks : List (Mark K)) → IsSortedByKey (λ (mark : Mark K). mark.place) cmp (x ∷ marks) → IsSortedByKey (λ (mark : Mark K). mark.place) cmp marks
    sorted_tail x marks up k d low inside = simp unary_clauses (simp unary_clauses at (up (suc k) d (omega arith) (omega arith)))

    -- marks in the order of their places
    runs-from_sorted : (x : Mark K) (rest : List (Mark K)) → IsSortedByKey (λ (mark : Mark K). mark.place) cmp (x ∷ rest) → Runs x rest
    runs-from_sorted x [] up = tt
    runs-from_sorted x (y ∷ rest) up = (alone, runs-from_sorted y rest (sorted_tail x (y ∷ rest) up))
      where
        alone : eq x.place y.place ≡ false → list_any (λ mark. eq x.place mark.place) (y ∷ rest) ≡ false
        alone apart = list_any_none (λ mark. eq x.place mark.place) (y ∷ rest)
            (All-from_get_or (λ mark. eq x.place mark.place ≡ false) (y ∷ rest) y (λ i inside.
            let z : Mark K = slice_index_or (y ∷ rest) i y in
            let far = sorted_far (λ (m n : Mark K). is_lt (cmp m.place n.place)) (ranks_by o (λ (mark : Mark K). mark.place)) (x ∷ y ∷ rest) up 1 (suc i) y (omega arith) (omega arith) in
            ties x.place z.place
            ∙ apart_beyond x.place y.place z.place (cmp x.place y.place) (cmp x.place z.place) refl refl (up 0 y (omega arith) (omega arith)) (sym (ties x.place y.place) ∙ apart) far))

    threads-stable : (marks sorted : List (Mark K)) → IsStableByKey (λ (mark : Mark K). mark.place) cmp marks sorted → (q : K) →
        threads_at eq sorted q ≡ threads_at eq marks q
    threads-stable marks sorted stable q =
        ap (map (λ (mark : Mark K). mark.thread)) (filter-stable o ties (λ (mark : Mark K). mark.place) (record { place = q; thread = 0 }) marks sorted stable)

    sorted-neighbours : (q : K) (sorted : List (Mark K)) → IsSortedByKey (λ (mark : Mark K). mark.place) cmp sorted →
        is_member eq (contested_neighbours eq sorted) q ≡ two_of (threads_at eq sorted q)
    unfolding contested_neighbours
    sorted-neighbours q [] up = refl
    sorted-neighbours q (x ∷ rest) up =
        ap (λ (places : List K). is_member eq places q) (neighbours-cons x rest) ∙ member-after q x rest (runs-from_sorted x rest up)

    -- the contested neighbours of sorted marks are the contested places
    pub contested_count-sorted : (marks sorted : List (Mark K)) → IsSortedByKey (λ (mark : Mark K). mark.place) cmp sorted → IsStableByKey (λ (mark : Mark K). mark.place) cmp marks sorted →
        distinct_count eq (contested_neighbours eq sorted) ≡ contested_count eq marks
    unfolding contested_count
    contested_count-sorted marks sorted up stable =
        distinct_count-same laws (contested_neighbours eq sorted) (filter (is_contested eq marks) (map (λ mark. mark.place) marks)) (λ q.
        sorted-neighbours q sorted up
        ∙ ap two_of (threads-stable marks sorted stable q)
        ∙ sym (contested_there marks q)
        ∙ sym (is_member-filter laws (is_contested eq marks) q (λ x equal. ap (λ (kept : List (Mark K)). two_of (map (λ mark. mark.thread) kept)) (at_same q x marks equal)) (map (λ mark. mark.place) marks)))
