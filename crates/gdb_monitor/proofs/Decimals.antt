-- The number of decimal digits.
use Rattle.std.proofs.Common.{◌≡◌, ◌∙◌, ℕ, ◌+◌, ◌-◌, ◌*◌, ◌<◌, ◌≤◌, ◌^◌, Bool, true, false, Option, Some, None, List, get_or, take, length, refl, sym, arith}
use Rattle.std.specs.Prelude.{◌==◌, ◌&&◌, nat_lt, not, if◌then◌else◌}
use Rattle.std.specs.Char.{digit_value, is_ascii_digit}
use Rattle.std.specs.List.{list_all}
use Rattle.std.specs.Str.Parse.{digits_value}
use Rattle.std.proofs.lemmas.Bool.Decides.{nat_tests}
use Rattle.std.proofs.lemmas.Int.Digits.{digits_value_more}
use Rattle.std.proofs.lemmas.List.{take_all}
use Rattle.std.proofs.lemmas.List.Folds.{list_all_at, list_all_more}
use Rattle.std.proofs.lemmas.Str.Parse.{digits_value-take-le}
use Rattle.gdb_monitor.specs.Commands.{decimal_in}

-- the digits so far are digits, and this is their number
pub record AreDigits (digits : List ℕ) (count value : ℕ) : Type 0 where
  pub all : list_all is_ascii_digit (take count digits) ≡ true
  pub value_is : value ≡ digits_value 10 (take count digits)
  pub small : value < 2 ^ 64

abbrev decimal_by : (some all fits : Bool) → ℕ → Option ℕ
decimal_by some all fits value = if some && all && fits then Some value else None

none_all : (some fits : Bool) (value : ℕ) → decimal_by some false fits value ≡ None
none_all true fits value = refl
none_all false fits value = refl

none_fits : (some all : Bool) (value : ℕ) → decimal_by some all false value ≡ None
none_fits true true value = refl
none_fits true false value = refl
none_fits false all value = refl

-- one that is no digit
pub no_digit : (digits : List ℕ) (place : ℕ) → place < length digits → is_ascii_digit (get_or digits place 0) ≡ false → decimal_in digits ≡ None
no_digit digits place within other =
    rw (list_all_at is_ascii_digit digits place 0 within other) (none_all (not (length digits == 0)) (nat_lt (digits_value 10 digits) (2 ^ 64)) (digits_value 10 digits))

not_below : (n most : ℕ) → most ≤ n → nat_lt n most ≡ false
not_below n most large = grind (arith, nat_tests, large)

-- a number that is too large with one digit more
pub too_large : (digits : List ℕ) (count value worth : ℕ) → worth ≡ digit_value (get_or digits count 0) → count < length digits → AreDigits digits count value
    → 2 ^ 64 ≤ value * 10 + worth → decimal_in digits ≡ None
too_large digits count value worth known within are large =
    let next = digits_value_more 10 digits count within in
    let more = digits_value-take-le 10 digits (count + 1) (omega arith) in
    let all : 2 ^ 64 ≤ digits_value 10 digits = omega (arith, known, are.value_is, large, next, more) in
    rw (not_below (digits_value 10 digits) (2 ^ 64) all) (none_fits (not (length digits == 0)) (list_all is_ascii_digit digits) (digits_value 10 digits))

-- what a digit is worth
pub worth_is : (digit : ℕ) → is_ascii_digit digit ≡ true → digit_value digit ≡ digit - 48
worth_is digit is = grind (arith, nat_tests, is)

-- all digits
pub whole : (digits : List ℕ) (value : ℕ) → 0 < length digits → AreDigits digits (length digits) value → decimal_in digits ≡ Some value
whole digits value some are =
    let all = rw (take_all (length digits) digits (omega arith)) at are.all in
    let is = rw (take_all (length digits) digits (omega arith)) at are.value_is in
    let filled : (length digits == 0) ≡ false = grind (arith, nat_tests, some) in
    let small = are.small in
    let fits : nat_lt (digits_value 10 digits) (2 ^ 64) ≡ true = grind (arith, nat_tests, is, small) in
    rw (filled, all, fits, is) refl

-- one digit more
pub one_more : (digits : List ℕ) (count value worth : ℕ) → worth ≡ digit_value (get_or digits count 0) → count < length digits → AreDigits digits count value
    → is_ascii_digit (get_or digits count 0) ≡ true → value * 10 + worth < 2 ^ 64 → AreDigits digits (count + 1) (value * 10 + worth)
one_more digits count value worth known within are is small =
    record {
      all = list_all_more is_ascii_digit digits count 0 within ∙ rw (are.all, is) refl;
      value_is = sym (digits_value_more 10 digits count within ∙ rw (sym are.value_is, sym known) refl);
      small = small;
    }
