-- The bytes of a word.
use Rattle.std.specs.Prelude.{ℕ, zero, suc, Bool, false, ◌||◌, not}
use Rattle.races.specs.declared.byte_set.ByteSet.{ByteSet}

-- whether the byte at a place is among them
abbrev pub has : ByteSet → (place : ℕ) → Bool
has set zero = set.first
has set (suc zero) = set.second
has set (suc (suc zero)) = set.third
has set (suc (suc (suc zero))) = set.fourth
has set (suc (suc (suc (suc place)))) = false

-- whether there is none
abbrev pub is_none : ByteSet → Bool
is_none set = not (set.first || set.second || set.third || set.fourth)
