use Rattle.std.specs.Prelude.{ℕ, Bool, ◌&&◌, ◌==◌, not, nat_le, List, map, filter}
use Rattle.std.specs.List.{zip}
use Rattle.std.specs.Set.{distinct_count}
use Rattle.std.proofs.Common.{drop}
use Rattle.sharing_report.specs.declared.mark.Mark.{Mark}

module _ {K : Type 0} (same : K → K → Bool) where
  -- the threads of the marks at a place
  abbrev pub threads_at : List (Mark K) → K → List ℕ
  threads_at marks place = map (λ mark. mark.thread) (filter (λ mark. same place mark.place) marks)

  -- whether at least two threads have a mark at a place
  abbrev pub is_contested : List (Mark K) → K → Bool
  is_contested marks place = nat_le 2 (distinct_count (λ thread other. thread == other) (threads_at marks place))

  -- how many places there are at which at least two threads have a mark
  unfoldable pub contested_count : List (Mark K) → ℕ
  contested_count marks =
      distinct_count same (filter (is_contested marks) (map (λ mark. mark.place) marks))

  -- the place of each mark whose predecessor has the same place and another thread
  unfoldable pub contested_neighbours : List (Mark K) → List K
  contested_neighbours marks =
      map (λ (before, mark). mark.place) (filter (λ (before, mark). same before.place mark.place && not (before.thread == mark.thread)) (zip marks (drop 1 marks)))
