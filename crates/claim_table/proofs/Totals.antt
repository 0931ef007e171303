-- What sums over logs come to after one view of a row changed.
use Rattle.std.proofs.Common.{◌≡◌, ℕ, zero, suc, ◌+◌, ◌<◌, ◌≤◌, ◌==◌, List, [], ◌∷◌, ◌++◌, set, sym, refl, ap, arith}
use Rattle.std.proofs.lemmas.Bool.Decides.{nat_tests}
use mathlib.Core.Option.{some, some-injective, some-ne-none}
use lib.ListN.{get_elem?}
use Rattle.claim_table.specs.declared.log.Log.{Log}
use Rattle.claim_table.specs.declared.seat_view.SeatView.{SeatView}
use Rattle.claim_table.specs.Logs.{total, times, one_if}
use Rattle.claim_table.specs.Rule.{logs}

pub total_set : (count : Log → ℕ) (views : List SeatView) (place : ℕ) (old new : SeatView) → get_elem? views place ≡ some old
    → total count (logs (set views place new)) + count old.log ≡ total count (logs views) + count new.log
unfolding total
total_set count [] place old new at = absurd (some-ne-none old (sym at))
total_set count (x ∷ xs) zero old new at = let e : count x.log ≡ count old.log = ap (λ (v : SeatView). count v.log) (some-injective x old at) in omega arith
total_set count (x ∷ xs) (suc place) old new at = let e = total_set count xs place old new at in omega arith

-- the sum grows by what is counted more of the one view
pub total_more : (count : Log → ℕ) (views : List SeatView) (place : ℕ) (old new : SeatView) (more : ℕ) → get_elem? views place ≡ some old → count new.log ≡ count old.log + more
    → total count (logs (set views place new)) ≡ total count (logs views) + more
total_more count views place old new more at e = let t = total_set count views place old new at in omega arith

pub total_push : (count : Log → ℕ) (views : List SeatView) (new : SeatView) → total count (logs (views ++ new ∷ [])) ≡ total count (logs views) + count new.log
unfolding total
total_push count [] new = omega arith
total_push count (x ∷ xs) new = let e = total_push count xs new in omega arith

pub total_within : (a b : Log → ℕ) (views : List SeatView) → ((place : ℕ) (view : SeatView) → get_elem? views place ≡ some view → a view.log ≤ b view.log)
    → total a (logs views) ≤ total b (logs views)
unfolding total
total_within a b [] each = omega arith
total_within a b (x ∷ xs) each = let here = each 0 x refl in let rest = total_within a b xs (λ place view at. each (suc place) view at) in omega arith

pub times_push : (n m : ℕ) (xs : List ℕ) → times n (xs ++ m ∷ []) ≡ times n xs + one_if (m == n)
unfolding times
times_push n m [] = omega arith
times_push n m (x ∷ xs) = let e = times_push n m xs in omega arith

pub times_append : (n : ℕ) (xs ys : List ℕ) → times n (xs ++ ys) ≡ times n xs + times n ys
unfolding times
times_append n [] ys = omega arith
times_append n (x ∷ xs) ys = let e = times_append n xs ys in omega arith

pub times_empty : (number : ℕ) → times number [] ≡ 0
unfolding times
times_empty number = refl

-- parts of nothing are nothing
pub times_nothing : (number : ℕ) (numbers : List ℕ) → numbers ≡ [] → times number [] + times number [] ≡ times number numbers
unfolding times
times_nothing number numbers none = rw none refl

-- two lists are made one, and another is empty
pub times_two : (number : ℕ) (xs ys : List ℕ) → times number (xs ++ ys) + times number [] ≡ times number xs + times number ys
unfolding times
times_two number xs ys = let e = times_append number xs ys in omega arith

pub total_append : (count : Log → ℕ) (xs ys : List Log) → total count (xs ++ ys) ≡ total count xs + total count ys
unfolding total
total_append count [] ys = omega arith
total_append count (x ∷ xs) ys = let e = total_append count xs ys in omega arith

-- what is counted of one view is part of the sum
pub total_part : (count : Log → ℕ) (views : List SeatView) (place : ℕ) (view : SeatView) → get_elem? views place ≡ some view → count view.log ≤ total count (logs views)
unfolding total
total_part count [] place view at = absurd (some-ne-none view (sym at))
total_part count (x ∷ xs) zero view at = let e : count x.log ≡ count view.log = ap (λ (v : SeatView). count v.log) (some-injective x view at) in omega arith
total_part count (x ∷ xs) (suc place) view at = let e = total_part count xs place view at in omega arith

-- where nothing is counted of any view, the sum is 0
pub total_none : (a b : Log → ℕ) (views : List SeatView) → ((place : ℕ) (view : SeatView) → get_elem? views place ≡ some view → a view.log ≡ 0 → b view.log ≡ 0)
    → total a (logs views) ≡ 0 → total b (logs views) ≡ 0
unfolding total
total_none a b [] each none = refl
total_none a b (x ∷ xs) each none = let here = each 0 x refl (omega arith) in let rest = total_none a b xs (λ place view at. each (suc place) view at) (omega arith) in omega arith

pub total_one : (count : Log → ℕ) (log : Log) → total count (log ∷ []) ≡ count log
unfolding total
total_one count log = omega arith

times_first : (number : ℕ) (numbers : List ℕ) → 0 < times number (number ∷ numbers)
unfolding times
times_first number numbers = grind (arith, nat_tests)

-- the last number of a list stands in it
pub drawn_here : (number : ℕ) (numbers : List ℕ) → 0 < times number (numbers ++ number ∷ [])
drawn_here number numbers = let e = times_push number number numbers in grind (arith, nat_tests)

-- a number that never stands in a list
pub empty_if : (xs : List ℕ) → ((number : ℕ) → ¬ (0 < times number xs)) → xs ≡ []
empty_if [] never = refl
empty_if (x ∷ xs) never = absurd (never x (times_first x xs))
