-- The rows of a range, and those of a range that is longer by a number.
use Rattle.std.proofs.Common.{◌≡◌, ◌≢◌, ◌⊎◌, inl, inr, ℕ, ◌+◌, ◌<◌, ◌≤◌, if◌then◌else◌, ◌==◌, List, [], ◌∷◌, All, length, refl, sym, subst, arith, length-append}
use Rattle.std.specs.List.{AllZip, concat}
use Rattle.std.proofs.lemmas.Bool.{cases_eq, eq-eqb, ne_eqb}
use Rattle.std.proofs.lemmas.List.Elements.{All-nil, All-cons, All-head, All-tail}
use Rattle.shuffled_phases.specs.Lists.{times}
use Rattle.shuffled_phases.proofs.Times.{times-append, times-itself}
use Rattle.explored_runs.specs.Rows.{AreRowsOf, Counts, CountsFirst, CountsRuns, Telling, one_more}
use Rattle.explored_runs.specs.declared.ending.Ending.{Ending}
use Rattle.explored_runs.specs.declared.row.Row.{Row}
use Rattle.explored_runs.proofs.Counting.{in_order}

-- what holds of each number that is counted holds of each row's first
firsts_in : (Is : Telling) (P : ℕ → Type 0) (rows : List Row) (counted : List (List ℕ)) → AllZip (CountsRuns Is) rows counted
    → ((n : ℕ) → 0 < times n (concat counted) → P n) → All (λ (row : Row). P row.first) rows
firsts_in Is P [] [] all holds = All-nil _
firsts_in Is P [] (numbers ∷ counted) all holds = absurd all
firsts_in Is P (row ∷ rows) [] all holds = absurd all
firsts_in Is P (row ∷ rows) (numbers ∷ counted) all holds =
    let first = all.0.first in
    All-cons (λ (it : Row). P it.first) row rows
    (holds row.first (let more = times-append row.first numbers (concat counted) in omega arith))
    (firsts_in Is P rows counted all.1 (λ n some. holds n (let more = times-append n numbers (concat counted) in omega arith)))

-- no row counts more runs than there are
pub few_runs : (Is : Telling) (most : ℕ) (rows : List Row) (counted : List (List ℕ)) → AllZip (CountsRuns Is) rows counted → length (concat counted) ≤ most
    → All (λ (row : Row). row.runs ≤ most) rows
few_runs Is most [] [] all few = All-nil _
few_runs Is most [] (numbers ∷ counted) all few = absurd all
few_runs Is most (row ∷ rows) [] all few = absurd all
few_runs Is most (row ∷ rows) (numbers ∷ counted) all few =
    let both = length-append numbers (concat counted) in
    let own = all.0.runs in
    All-cons (λ (it : Row). it.runs ≤ most) row rows (omega arith) (few_runs Is most rows counted all.1 (omega arith))

-- the numbers that rows count after one more was counted
record CountsMore (Is : Telling) (number : ℕ) (rows : List Row) (before : List (List ℕ)) : Type 0 where
  counted : List (List ℕ)
  count : AllZip (CountsRuns Is) rows counted
  more : (n : ℕ) → times n (concat counted) ≡ (if number == n then 1 else 0) + times n (concat before)
  all : length (concat counted) ≡ 1 + length (concat before)

counts_first : (Is : Telling) (number : ℕ) (ending : Ending) (line : List ℕ) (row : Row) → Is number ending line → CountsFirst number ending line row
    → CountsRuns Is row (number ∷ [])
counts_first Is number ending line row is counts = record {
  runs = counts.runs;
  each = All-cons (λ (n : ℕ). (line : List ℕ) × Is n row.ending line) number [] (line, subst (λ (e : Ending). Is number e line) (sym counts.ending) is) (All-nil _);
  first = rw counts.first (let once = times-itself number [] in omega arith);
  least = All-cons (λ (n : ℕ). row.first ≤ n) number [] (let same = counts.first in omega arith) (All-nil _);
  line = rw (counts.first, counts.ending, counts.line) is;
}

counts_again : (Is : Telling) (number : ℕ) (ending : Ending) (line : List ℕ) (row : Row) (numbers : List ℕ) → Is number ending line → row.ending ≡ ending → row.first ≤ number
    → CountsRuns Is row numbers → CountsRuns Is (one_more row) (number ∷ numbers)
counts_again Is number ending line row numbers is same below counts = record {
  runs = (let own = counts.runs in omega arith);
  each = All-cons (λ (n : ℕ). (line : List ℕ) × Is n row.ending line) number numbers (line, subst (λ (e : Ending). Is number e line) (sym same) is) counts.each;
  first = (let some = counts.first in omega arith);
  least = All-cons (λ (n : ℕ). row.first ≤ n) number numbers below counts.least;
  line = counts.line;
}

counts_more : (Is : Telling) (number : ℕ) (ending : Ending) (line : List ℕ) (rows rows' : List Row) (before : List (List ℕ)) → Is number ending line
    → All (λ (row : Row). row.first < number) rows → Counts number ending line rows rows' → AllZip (CountsRuns Is) rows before → CountsMore Is number rows' before
counts_more Is number ending line [] rows' [] is below counts all = record {
  counted = (number ∷ []) ∷ [];
  count = rw counts.1 (counts_first Is number ending line counts.0 is counts.2, tt);
  more = λ n. refl;
  all = refl;
}
counts_more Is number ending line [] rows' (numbers ∷ before) is below counts all = absurd all
counts_more Is number ending line (row ∷ rows) rows' [] is below counts all = absurd all
counts_more Is number ending line (row ∷ rows) [] (numbers ∷ before) is below counts all = absurd counts
counts_more Is number ending line (row ∷ rows) (row' ∷ rows') (numbers ∷ before) is below (inl counts) all = record {
  counted = (number ∷ numbers) ∷ before;
  count = rw (counts.1, counts.2)
      (counts_again Is number ending line row numbers is counts.0 (let under = All-head (λ (it : Row). it.first < number) row rows below in omega arith) all.0, all.1);
  more = λ n. omega arith;
  all = omega arith;
}
counts_more Is number ending line (row ∷ rows) (row' ∷ rows') (numbers ∷ before) is below (inr counts) all =
    let rest = counts_more Is number ending line rows rows' before is (All-tail (λ (it : Row). it.first < number) row rows below) counts.2 all.1 in record {
      counted = numbers ∷ rest.counted;
      count = rw counts.1 (all.0, rest.count);
      more = λ n.
          let after = times-append n numbers (concat rest.counted) in
          let was = times-append n numbers (concat before) in
          let one = rest.more n in omega arith;
      all =
          let after = length-append numbers (concat rest.counted) in
          let was = length-append numbers (concat before) in
          let one = rest.all in omega arith;
    }

-- there are no rows of no numbers
pub no_rows : (Is : Telling) (from : ℕ) → AreRowsOf Is from 0 []
no_rows Is from = record {
  counted = [];
  count = tt;
  once = λ n low high. absurd (omega arith);
  only = λ n some. absurd (omega arith);
  all = refl;
  order = tt;
}

-- how often each number is counted, once the next of a range is
record IsCounted (from runs : ℕ) (times_of : ℕ → ℕ) : Type 0 where
  once : (n : ℕ) → from ≤ n → n < from + runs → times_of n ≡ 1
  only : (n : ℕ) → 0 < times_of n → (from ≤ n) × (n < from + runs)

once_at : (from runs number n : ℕ) (before after : ℕ → ℕ) → number ≡ from + runs → after n ≡ (if number == n then 1 else 0) + before n → IsCounted from runs before
    → from ≤ n → n < from + (runs + 1) → (number ≡ n) ⊎ (number ≢ n) → (before n ≡ 0) ⊎ (before n ≢ 0) → after n ≡ 1
once_at from runs number n before after next more was low high (inl same) (inl none) = let test = eq-eqb number n same in rw (more, test) (omega arith)
once_at from runs number n before after next more was low high (inl same) (inr some) = let range = was.only n (omega arith) in absurd (omega arith)
once_at from runs number n before after next more was low high (inr other) none =
    let test = ne_eqb number n other in
    let one = was.once n low (omega arith) in rw (more, test) (omega arith)

only_at : (from runs number n : ℕ) (before after : ℕ → ℕ) → number ≡ from + runs → after n ≡ (if number == n then 1 else 0) + before n → IsCounted from runs before
    → 0 < after n → (number ≡ n) ⊎ (number ≢ n) → (from ≤ n) × (n < from + (runs + 1))
only_at from runs number n before after next more was some (inl same) = (omega arith, omega arith)
only_at from runs number n before after next more was some (inr other) =
    let test = ne_eqb number n other in
    let same : after n ≡ 0 + before n = rw test at more in
    let range = was.only n (omega arith) in (range.0, omega arith)

all_more : (before now : List (List ℕ)) (runs : ℕ) → length (concat now) ≡ 1 + length (concat before) → length (concat before) ≡ runs → length (concat now) ≡ runs + 1
all_more before now runs one was = omega arith

-- the next number is counted
pub more_rows : (Is : Telling) (from runs number : ℕ) (ending : Ending) (line : List ℕ) (rows rows' : List Row) → number ≡ from + runs → Is number ending line
    → Counts number ending line rows rows' → AreRowsOf Is from runs rows → AreRowsOf Is from (runs + 1) rows'
more_rows Is from runs number ending line rows rows' next is counts was =
    let below : All (λ (row : Row). row.first < number) rows =
    firsts_in Is (λ (n : ℕ). n < number) rows was.counted was.count (λ n some. let range = was.only n some in omega arith) in
    let now = counts_more Is number ending line rows rows' was.counted is below counts was.count in
    let times_before : ℕ → ℕ = λ n. times n (concat was.counted) in
    let times_now : ℕ → ℕ = λ n. times n (concat now.counted) in
    let before : IsCounted from runs times_before = record { once = was.once; only = was.only } in record {
      counted = now.counted;
      count = now.count;
      once = λ n low high. once_at from runs number n times_before times_now next (now.more n) before low high (cases_eq number n) (cases_eq (times_before n) 0);
      only = λ n some. only_at from runs number n times_before times_now next (now.more n) before some (cases_eq number n);
      all = all_more was.counted now.counted runs now.all was.all;
      order = in_order number ending line rows rows' below counts was.order;
    }
