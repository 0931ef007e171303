use Rattle.std.specs.Prelude.{◌≡◌, ◌≢◌, ℕ, ◌+◌, ◌-◌, ◌*◌, ◌/◌, ◌%◌, ◌≤◌, ◌==◌, if◌then◌else◌, Option, MatchOption, List, length, slice_index, sum_by}

-- which leaf a page number's group has, counted from 1, and 0 where it has none
abbrev pub leaf_of : List ℕ → ℕ → ℕ
leaf_of groups number = slice_index groups (number / 1024)

-- which place a page number has in a table of groups and leaves, counted from 1, and 0 where it has none
unfoldable pub place_in : List ℕ → List ℕ → ℕ → ℕ
place_in groups leaves number =
    if leaf_of groups number == 0 then 0 else slice_index leaves ((leaf_of groups number - 1) * 1024 + number % 1024)

-- what is answered for a place that is counted from 1: the place, and none for 0
abbrev pub AnswersPlace : Option ℕ → ℕ → Type 0
AnswersPlace place counted = MatchOption place (counted ≡ 0) (λ place. counted ≡ place + 1)

-- a page number's group has a leaf
abbrev pub has_leaf : List ℕ → ℕ → Type 0
has_leaf groups number = leaf_of groups number ≢ 0

-- 1 for a group that has a leaf
abbrev pub leaf_count : ℕ → ℕ
leaf_count leaf = if leaf == 0 then 0 else 1

-- What holds of them: there are 1024 groups, each leaf that is named is there, no two groups have one leaf, and there are no further leaves.
pub record HaveLeaves (groups leaves : List ℕ) : Type 0 where
  pub groups_count : length groups ≡ 1024
  pub sizes : length leaves ≡ 1024 * sum_by leaf_count groups
  pub within : (group : ℕ) → 1024 * slice_index groups group ≤ length leaves
  pub distinct : (group other : ℕ) → slice_index groups group ≢ 0 → slice_index groups group ≡ slice_index groups other → group ≡ other
