-- The contested places with one mark more at the end.
use Rattle.std.proofs.Common.{◌≡◌, ℕ, suc, ◌+◌, ◌||◌, ◌&&◌, not, Bool, true, false, cond, List, [], ◌∷◌, ◌++◌, length, map, filter, refl, sym, ◌∙◌, ap, arith}
use Rattle.std.specs.Cmp.{IsEquivalence}
use Rattle.std.specs.Set.{distinct_count, is_member, unique_keys}
use Rattle.std.proofs.lemmas.List.{append-nil, map-append}
use Rattle.std.proofs.lemmas.List.Elements.{filter-append}
use Rattle.std.proofs.lemmas.Map.Made.{is_member-filter}
use Rattle.sharing_report.specs.Changers.{two_of}
use Rattle.sharing_report.specs.Contested.{threads_at, is_contested, contested_count}
use Rattle.sharing_report.specs.declared.mark.Mark.{Mark}
use Rattle.sharing_report.proofs.Counted.{counted, two_of-more}
use Rattle.sharing_report.proofs.Distinct.{distinct_count-same}
use Rattle.sharing_report.proofs.Neighbours.{at_same, contested_there}

module _ {K : Type 0} {eq : K → K → Bool} (laws : IsEquivalence eq) where
  -- the contested places
  abbrev places_of : List (Mark K) → List K
  places_of marks = filter (is_contested eq marks) (map (λ (mark : Mark K). mark.place) marks)

  contested_alike : (marks : List (Mark K)) (q x : K) → eq q x ≡ true → is_contested eq marks q ≡ is_contested eq marks x
  contested_alike marks q x equal = ap (λ (kept : List (Mark K)). two_of (map (λ (mark : Mark K). mark.thread) kept)) (at_same laws q x marks equal)

  member-places : (marks : List (Mark K)) (q : K) → is_member eq (places_of marks) q ≡ is_contested eq marks q
  member-places marks q =
      is_member-filter laws (is_contested eq marks) q (λ x equal. contested_alike marks q x equal) (map (λ (mark : Mark K). mark.place) marks)
      ∙ contested_there laws marks q

  single : (mark : Mark K) (b : Bool) → map (λ (one : Mark K). one.thread) (cond b (mark ∷ []) []) ≡ cond b (mark.thread ∷ []) []
  single mark true = refl
  single mark false = refl

  threads_at-snoc : (marks : List (Mark K)) (mark : Mark K) (q : K) → threads_at eq (marks ++ mark ∷ []) q ≡ threads_at eq marks q ++ cond (eq q mark.place) (mark.thread ∷ []) []
  threads_at-snoc marks mark q =
      ap (map (λ (one : Mark K). one.thread)) (filter-append (λ (one : Mark K). eq q one.place) marks (mark ∷ []))
      ∙ map-append (λ (one : Mark K). one.thread) (filter (λ (one : Mark K). eq q one.place) marks) (cond (eq q mark.place) (mark ∷ []) [])
      ∙ ap (λ (last : List ℕ). threads_at eq marks q ++ last) (single mark (eq q mark.place))

  -- the mark's thread at its place
  pub threads_at_here : (marks : List (Mark K)) (mark : Mark K) → threads_at eq (marks ++ mark ∷ []) mark.place ≡ threads_at eq marks mark.place ++ mark.thread ∷ []
  threads_at_here marks mark =
      threads_at-snoc marks mark mark.place ∙ ap (λ (b : Bool). threads_at eq marks mark.place ++ cond b (mark.thread ∷ []) []) (laws.refl mark.place)

  -- and nothing at another
  pub threads_at_apart : (marks : List (Mark K)) (mark : Mark K) (q : K) → eq q mark.place ≡ false → threads_at eq (marks ++ mark ∷ []) q ≡ threads_at eq marks q
  threads_at_apart marks mark q apart =
      threads_at-snoc marks mark q ∙ ap (λ (b : Bool). threads_at eq marks q ++ cond b (mark.thread ∷ []) []) apart ∙ append-nil (threads_at eq marks q)

  -- a place that becomes contested
  grown : (marks : List (Mark K)) (mark : Mark K) (q : K) (here : Bool) → eq q mark.place ≡ here → two_of (threads_at eq marks mark.place ++ mark.thread ∷ []) ≡ true
      → is_contested eq (marks ++ mark ∷ []) q ≡ (here || is_contested eq marks q)
  grown marks mark q true is after = contested_alike (marks ++ mark ∷ []) q mark.place is ∙ ap two_of (threads_at_here marks mark) ∙ after
  grown marks mark q false is after = ap two_of (threads_at_apart marks mark q is)

  -- a place that stays as it was
  alike : (marks : List (Mark K)) (mark : Mark K) (q : K) (here both : Bool) → eq q mark.place ≡ here → two_of (threads_at eq marks mark.place) ≡ both
      → two_of (threads_at eq marks mark.place ++ mark.thread ∷ []) ≡ both → is_contested eq (marks ++ mark ∷ []) q ≡ is_contested eq marks q
  alike marks mark q true both is before after =
      contested_alike (marks ++ mark ∷ []) q mark.place is ∙ ap two_of (threads_at_here marks mark) ∙ after ∙ sym before ∙ sym (contested_alike marks q mark.place is)
  alike marks mark q false both is before after = ap two_of (threads_at_apart marks mark q is)

  -- the count grows by one where the mark's thread is the second at its place
  pub contested_count-snoc : (marks : List (Mark K)) (mark : Mark K) →
      contested_count eq (marks ++ mark ∷ []) ≡ contested_count eq marks + cond (not (two_of (threads_at eq marks mark.place)) && two_of (threads_at eq marks mark.place ++ mark.thread ∷ [])) 1 0
  unfolding contested_count
  contested_count-snoc marks mark = step (two_of threads) (two_of (threads ++ mark.thread ∷ [])) refl refl
    where
      threads : List ℕ
      threads = threads_at eq marks mark.place

      unchanged : (both : Bool) → two_of threads ≡ both → two_of (threads ++ mark.thread ∷ []) ≡ both → distinct_count eq (places_of (marks ++ mark ∷ [])) ≡ distinct_count eq (places_of marks)
      unchanged both before after =
          distinct_count-same laws (places_of (marks ++ mark ∷ [])) (places_of marks)
          (λ q. member-places (marks ++ mark ∷ []) q ∙ alike marks mark q (eq q mark.place) both refl before after ∙ sym (member-places marks q))

      step : (before after : Bool) → two_of threads ≡ before → two_of (threads ++ mark.thread ∷ []) ≡ after
          → distinct_count eq (places_of (marks ++ mark ∷ [])) ≡ distinct_count eq (places_of marks) + cond (not before && after) 1 0
      step false false before after = let same = unchanged false before after in omega (arith, same)
      step true true before after = let same = unchanged true before after in omega (arith, same)
      step true false before after = let two = two_of-more threads mark.thread before in cc
      step false true before after =
          let same : distinct_count eq (places_of (marks ++ mark ∷ [])) ≡ distinct_count eq (mark.place ∷ places_of marks) =
          distinct_count-same laws (places_of (marks ++ mark ∷ [])) (mark.place ∷ places_of marks)
          (λ q. member-places (marks ++ mark ∷ []) q ∙ grown marks mark q (eq q mark.place) refl after ∙ ap (λ (b : Bool). eq q mark.place || b) (sym (member-places marks q))) in
          let new : distinct_count eq (mark.place ∷ places_of marks) ≡ suc (distinct_count eq (places_of marks)) =
          counted laws mark.place (places_of marks) (is_member eq (places_of marks) mark.place)
          ∙ ap (λ (b : Bool). cond b (distinct_count eq (places_of marks)) (suc (distinct_count eq (places_of marks)))) (member-places marks mark.place ∙ before) in
          omega (arith, same, new)
