-- Rows that count one run more.
use Rattle.std.proofs.Common.{◌≡◌, ◌≢◌, inl, inr, ℕ, zero, suc, ◌<◌, List, [], ◌∷◌, ◌++◌, All, length, slice_set, slice_index_or, refl, sym, ap, subst, arith}
use Rattle.std.proofs.lemmas.List.Elements.{All-nil, All-cons, All-head, All-tail}
use Rattle.explored_runs.specs.Rows.{AreInOrder, Counts, CountsFirst, one_more}
use Rattle.explored_runs.specs.declared.ending.Ending.{Ending}
use Rattle.explored_runs.specs.declared.row.Row.{Row}

-- the first row with an ending counts a run more
pub counts_at : (number : ℕ) (ending : Ending) (line : List ℕ) (rows : List Row) (place : ℕ) (row : Row) → place < length rows
    → ((k : ℕ) (d : Row) → k < place → (slice_index_or rows k d).ending ≢ ending) → row ≡ slice_index_or rows place row → row.ending ≡ ending
    → Counts number ending line rows (slice_set rows place (one_more row))
counts_at number ending line [] place row within before is same = absurd (omega arith)
counts_at number ending line (first ∷ rest) zero row within before is same =
    inl (subst (λ (it : Row). it.ending ≡ ending) is same, ap one_more is, refl)
counts_at number ending line (first ∷ rest) (suc place) row within before is same =
    inr (before 0 first (omega arith), refl, counts_at number ending line rest place row (omega arith) (λ k d below. before (suc k) d (omega arith)) is same)

-- a new row counts it, if no row has the ending
pub counts_new : (number : ℕ) (ending : Ending) (line : List ℕ) (rows : List Row) (row : Row)
    → ((k : ℕ) (d : Row) → k < length rows → (slice_index_or rows k d).ending ≢ ending) → CountsFirst number ending line row
    → Counts number ending line rows (rows ++ row ∷ [])
counts_new number ending line [] row before first = (row, refl, first)
counts_new number ending line (other ∷ rest) row before first =
    inr (before 0 other (omega arith), refl, counts_new number ending line rest row (λ k d below. before (suc k) d (omega arith)) first)

-- what holds of each row's first number and ending holds after a run was counted
all_counted : (P : ℕ → Ending → Type 0) (number : ℕ) (ending : Ending) (line : List ℕ) (rows rows' : List Row) → P number ending → Counts number ending line rows rows'
    → All (λ (row : Row). P row.first row.ending) rows → All (λ (row : Row). P row.first row.ending) rows'
all_counted P number ending line [] rows' here counts all =
    let is = counts.2 in
    let first : P counts.0.first counts.0.ending = subst (λ (n : ℕ). P n counts.0.ending) (sym is.first) (subst (P number) (sym is.ending) here) in
    subst (All (λ (row : Row). P row.first row.ending)) (sym counts.1) (All-cons (λ (row : Row). P row.first row.ending) counts.0 [] first (All-nil (λ (row : Row). P row.first row.ending)))
all_counted P number ending line (row ∷ rows) [] here counts all = absurd counts
all_counted P number ending line (row ∷ rows) (row' ∷ rows') here (inl counts) all =
    let Is : Row → Type 0 = λ (it : Row). P it.first it.ending in
    let head : Is row' = subst Is (sym counts.1) (All-head Is row rows all) in
    All-cons Is row' rows' head (subst (All Is) (sym counts.2) (All-tail Is row rows all))
all_counted P number ending line (row ∷ rows) (row' ∷ rows') here (inr counts) all =
    let Is : Row → Type 0 = λ (it : Row). P it.first it.ending in
    let head : Is row' = subst Is (sym counts.1) (All-head Is row rows all) in
    All-cons Is row' rows' head (all_counted P number ending line rows rows' here counts.2 (All-tail Is row rows all))

-- rows stay in order if a run is counted with a number above their first ones
pub in_order : (number : ℕ) (ending : Ending) (line : List ℕ) (rows rows' : List Row) → All (λ (row : Row). row.first < number) rows → Counts number ending line rows rows'
    → AreInOrder rows → AreInOrder rows'
in_order number ending line [] rows' below counts order = subst AreInOrder (sym counts.1) (All-nil _, tt)
in_order number ending line (row ∷ rows) [] below counts order = absurd counts
in_order number ending line (row ∷ rows) (row' ∷ rows') below (inl counts) order =
    let whole : AreInOrder (one_more row ∷ rows) = order in
    rw (counts.1, counts.2) whole
in_order number ending line (row ∷ rows) (row' ∷ rows') below (inr counts) order =
    let P : ℕ → Ending → Type 0 = λ n e. (row.first < n) × (row.ending ≢ e) in
    let behind : All (λ (other : Row). P other.first other.ending) rows' =
    all_counted P number ending line rows rows' (All-head (λ (it : Row). it.first < number) row rows below, counts.0) counts.2 order.0 in
    let rest = in_order number ending line rows rows' (All-tail (λ (it : Row). it.first < number) row rows below) counts.2 order.1 in
    let whole : AreInOrder (row ∷ rows') = (behind, rest) in
    rw counts.1 whole
