-- After how many instructions a fresh segment ends at the latest, as a number draws it.
use Rattle.std.specs.Prelude.{ℕ, ◌+◌, ◌-◌, ◌*◌, ◌%◌, ◌^◌, ◌||◌, ◌==◌, nat_lt, not, if◌then◌else◌, Option, Some, None}
use Rattle.shuffled_phases.specs.Draws.{draw}

-- 0, 0, 0, 8, 12 or 16: a length has fewer bits, and there is none at 0
abbrev pub most_bits : (number : ℕ) → ℕ
most_bits number = let kind : ℕ = draw number 7 0 0 % 6 in if nat_lt kind 3 then 0 else 4 * (kind - 1)

-- all segments have a length, or one in four
abbrev pub rarity : (number : ℕ) → ℕ
rarity number = if draw number 8 0 0 % 2 == 0 then 1 else 4

-- a length of so many bits and one more
abbrev pub length_of : (bits drawn : ℕ) → ℕ
length_of bits drawn = 2 ^ bits + drawn % 2 ^ bits

unfoldable pub drawn_length : (number phase thread : ℕ) → Option ℕ
drawn_length number phase thread =
    if most_bits number == 0 || not (draw number 9 phase thread % rarity number == 0) then None
    else Some (length_of (draw number 10 phase thread % most_bits number) (draw number 11 phase thread))
