-- Who changed something, by the threads that did.
use Rattle.std.specs.Prelude.{◌≡◌, ℕ, Bool, true, ◌==◌, nat_le, List, []}
use Rattle.std.specs.Set.{distinct_count, is_member}
use Rattle.sharing_report.specs.declared.changer.Changer.{Changer}
use Rattle.sharing_report.specs.declared.changer.Changer.TheVariants.{Nobody, One, Several}

-- whether a number is among others
abbrev pub is_among : List ℕ → ℕ → Bool
is_among numbers number = is_member (λ one other. one == other) numbers number

-- whether at least two of some numbers differ
abbrev pub two_of : List ℕ → Bool
two_of numbers = nat_le 2 (distinct_count (λ one other. one == other) numbers)

-- what is known of the threads that changed something
abbrev pub IsChanger : Changer → List ℕ → Type 0
IsChanger Nobody threads = threads ≡ []
IsChanger (One thread) threads = (other : ℕ) → is_among threads other ≡ (other == thread)
IsChanger Several threads = two_of threads ≡ true
