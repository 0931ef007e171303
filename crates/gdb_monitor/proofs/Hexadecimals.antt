-- The number of hexadecimal digits.
use Rattle.std.proofs.Common.{◌≡◌, ◌≢◌, ℕ, ◌-◌, ◌<◌, ◌^◌, Bool, true, false, Option, Some, None, List, [], ◌∷◌, length, refl, subst, arith}
use Rattle.std.specs.Prelude.{◌==◌, nat_lt, not, min, All, MatchOption}
use Rattle.std.specs.Char.{digit_value}
use Rattle.std.specs.List.{list_all}
use Rattle.std.proofs.lemmas.Bool.Decides.{nat_tests}
use Rattle.std.proofs.lemmas.List.Elements.{All-weaker}
use Rattle.std.proofs.lemmas.List.Sums.{AllPass-from_list_all, list_all-from_AllPass}
use Rattle.gdb_packets.specs.Numbers.{IsNumber, value_of}
use Rattle.gdb_monitor.specs.Commands.{hexadecimal_in}

abbrev is_digit : ℕ → Bool
is_digit digit = nat_lt (digit_value digit) 16

is_small : (n : ℕ) → nat_lt n 16 ≡ true → n < 16
is_small n is = grind (arith, nat_tests, is)

small_is : (n : ℕ) → n < 16 → nat_lt n 16 ≡ true
small_is n small = grind (arith, nat_tests, small)

all_small : (digits : List ℕ) → list_all is_digit digits ≡ true → All (λ digit. digit_value digit < 16) digits
all_small digits all =
    All-weaker (λ digit. is_digit digit ≡ true) (λ digit. digit_value digit < 16) (λ digit is. is_small (digit_value digit) is) digits
    (AllPass-from_list_all is_digit digits all)

small_all : (digits : List ℕ) → All (λ digit. digit_value digit < 16) digits → list_all is_digit digits ≡ true
small_all digits all =
    list_all-from_AllPass is_digit digits
    (All-weaker (λ digit. digit_value digit < 16) (λ digit. is_digit digit ≡ true) (λ digit small. small_is (digit_value digit) small) digits all)

above : (n : ℕ) → 0 < n → not (n == 0) ≡ true
above n more = grind (arith, nat_tests, more)

filled : (digits : List ℕ) → digits ≢ [] → not (length digits == 0) ≡ true
filled [] some = absurd (some refl)
filled (digit ∷ digits) some = above (length (digit ∷ digits)) (omega arith)

-- what reads numbers in hexadecimal digits reads these
pub number_is : (digits : List ℕ) (result : Option ℕ) → MatchOption result ((number : ℕ) → ¬ IsNumber digits number) (IsNumber digits) → result ≡ hexadecimal_in digits
number_is digits (Some number) is = rw (filled digits is.some, small_all digits is.all, is.value) refl
number_is digits None none = by (not (length digits == 0)) (list_all is_digit digits) refl refl
  where
    by : (some all : Bool) → not (length digits == 0) ≡ some → list_all is_digit digits ≡ all → None ≡ hexadecimal_in digits
    by false all some_is all_is = rw some_is refl
    by true false some_is all_is = rw (some_is, all_is) refl
    by true true some_is all_is =
        absurd
        (none (min (value_of digits) (2 ^ 64 - 1))
        (record {
          some = λ empty. let wrong = subst (λ (other : List ℕ). not (length other == 0) ≡ true) empty some_is in cc;
          all = all_small digits all_is;
          value = refl;
        }))
