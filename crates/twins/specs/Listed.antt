use Rattle.std.specs.Prelude.{◌≡◌, ◌≢◌, ℕ, zero, suc, ◌+◌, ◌-◌, ◌^◌, ◌<◌, ◌≤◌, ◌==◌, if◌then◌else◌, List, [], ◌∷◌, length, slice_index}

-- Page numbers stand in a list at the places that a table gives them, counted from 1, and a number without a place doesn't stand there.
pub record AreListed (place : ℕ → ℕ) (numbers : List ℕ) : Type 0 where
  pub known : (index : ℕ) → slice_index numbers index < 2 ^ 20
  pub placed : (index : ℕ) → index < length numbers → place (slice_index numbers index) ≡ index + 1
  pub within : (number : ℕ) → place number ≤ length numbers
  pub listed : (number : ℕ) → place number ≢ 0 → slice_index numbers (place number - 1) ≡ number

-- the place after a place, and none after none
abbrev pub next_place : ℕ → ℕ
next_place zero = 0
next_place (suc place) = place + 2

-- where a number first stands in a list, counted from 1, and 0 where it doesn't
unfoldable pub place_among : List ℕ → ℕ → ℕ
place_among [] number = 0
place_among (first ∷ rest) number = if first == number then 1 else next_place (place_among rest number)
