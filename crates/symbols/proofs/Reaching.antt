-- The name at an offset, by the first zero within reach.
use Rattle.std.proofs.Common.{◌≡◌, ℕ, ◌+◌, ◌-◌, ◌≤◌, min, cond, Option, Some, None, List, ap, sym, ◌∙◌, arith, length, take, drop, inl, inr}
use Rattle.std.specs.Prelude.{◌==◌, option_and_then, position, slice_range}
use Rattle.std.proofs.lemmas.Bool.{cases_lt}
use Rattle.std.proofs.lemmas.List.{length-drop, take_all}
use Rattle.symbols.specs.Names.{is_name, name_at}

-- a part of what is left of the strings from an offset on
pub rest_part : (strings rest : List ℕ) (offset n : ℕ) → offset ≤ length strings → rest ≡ slice_range strings offset (length strings) → take n rest ≡ slice_range strings offset (offset + n)
rest_part strings rest offset n within is =
    let whole : take (length strings - offset) (drop offset strings) ≡ drop offset strings = take_all (length strings - offset) (drop offset strings) (omega (arith, length-drop offset strings)) in
    let same : n ≡ offset + n - offset = omega arith in
    ap (take n) (is ∙ whole) ∙ ap (λ k. take k (drop offset strings)) same

-- as much as there is of a part is that part
pub take-min : (xs : List ℕ) (m n : ℕ) → m ≡ min (length xs) n → take m xs ≡ take n xs
take-min xs m n is =
    elim (cases_lt n (length xs)) [
      | inl within ↦ let same : m ≡ n = omega arith in ap (λ k. take k xs) same
      | inr beyond ↦ take_all m xs (omega arith) ∙ sym (take_all n xs beyond)
    ]

-- the name, by where the first zero is
pub name_at-found : (strings : List ℕ) (offset : ℕ) (found : Option ℕ) → position (λ byte. byte == 0) (slice_range strings offset (offset + 256)) ≡ found → name_at strings offset ≡ option_and_then (λ size. cond (is_name (slice_range strings offset (offset + size))) (Some (slice_range strings offset (offset + size))) None) found
unfolding name_at
name_at-found strings offset found is =
    ap (option_and_then (λ size. cond (is_name (slice_range strings offset (offset + size))) (Some (slice_range strings offset (offset + size))) None)) is
