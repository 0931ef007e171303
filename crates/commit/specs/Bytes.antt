use Rattle.std.specs.Prelude.{ℕ, ◌+◌, ◌≤◌, ◌==◌, if◌then◌else◌, List, [], ◌∷◌, length}

-- So many bytes from a place on lie within those that were found, and within those that were left.
pub record LieInBoth (at count : ℕ) (found left : List ℕ) : Type 0 where
  pub copy : at + count ≤ length found
  pub mine : at + count ≤ length left

-- at how many places two lists of bytes differ
unfoldable pub differing_count : List ℕ → List ℕ → ℕ
differing_count [] mine = 0
differing_count (c ∷ copy) [] = 0
differing_count (c ∷ copy) (m ∷ mine) = (if c == m then 0 else 1) + differing_count copy mine

-- the bytes of now, with mine's where copy and mine differ
unfoldable pub merged_bytes : List ℕ → List ℕ → List ℕ → List ℕ
merged_bytes [] copy mine = []
merged_bytes (n ∷ now) [] mine = n ∷ now
merged_bytes (n ∷ now) (c ∷ copy) [] = n ∷ now
merged_bytes (n ∷ now) (c ∷ copy) (m ∷ mine) = (if c == m then n else m) ∷ merged_bytes now copy mine

-- the places where two lists of bytes differ, counted from a first number on
unfoldable pub differing_from : ℕ → List ℕ → List ℕ → List ℕ
differing_from first [] mine = []
differing_from first (c ∷ copy) [] = []
differing_from first (c ∷ copy) (m ∷ mine) =
    if c == m then differing_from (first + 1) copy mine else first ∷ differing_from (first + 1) copy mine
