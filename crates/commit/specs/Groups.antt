-- Groups of 128 bytes of two pages, and what a look at the pages finds.
use Rattle.std.specs.Prelude.{◌≡◌, ◌+◌, ◌%◌, ◌<◌, ◌≤◌, ℕ, List, length}
use Rattle.std.specs.Simd.Lanes.{chunk}
use Rattle.commit.specs.Bytes.{differing_count}
use Rattle.commit.specs.declared.comparison.Comparison.{Comparison}

-- at how many places of the group that begins there two pages differ
abbrev pub differing_in : ℕ → List ℕ → List ℕ → ℕ
differing_in at copy mine = differing_count (chunk at 128 copy) (chunk at 128 mine)

-- all places at which two pages differ are of one group
abbrev pub AreOfOneGroup : List ℕ → List ℕ → Type 0
AreOfOneGroup copy mine = (at : ℕ) × (at % 128 ≡ 0) × (at + 128 ≤ length copy) × (differing_in at copy mine ≡ differing_count copy mine)

-- It says at how many places two pages differ, and names a group in which they do, if they do at all.
pub record IsComparison (copy mine : List ℕ) (found : Comparison) : Type 0 where
  pub count_is : found.count ≡ differing_count copy mine
  pub aligned : found.last % 128 ≡ 0
  pub some : 0 < found.count → 0 < differing_in found.last copy mine
