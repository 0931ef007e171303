-- Where all places at which two pages differ are of one group, it is each group that has such a place.
use Rattle.std.proofs.Common.{◌≡◌, ◌≢◌, ℕ, ◌+◌, ◌-◌, ◌%◌, ◌<◌, ◌≤◌, ◌⊎◌, List, length, take, take_all, sym, ◌∙◌, ap, ap₂, arith, inl, inr}
use Rattle.std.proofs.lemmas.Bool.{cases_eq, cases_lt}
use Rattle.commit.specs.Bytes.{differing_count}
use Rattle.commit.specs.Groups.{AreOfOneGroup, differing_in}
use Rattle.commit.proofs.Blocks.{differing_count-more}

module _ (copy mine : List ℕ) (sizes : length copy ≡ length mine) where
  -- how many of the first places differ
  abbrev first : ℕ → ℕ
  first count = differing_count (take count copy) (take count mine)

  first-all : first (length copy) ≡ differing_count copy mine
  first-all = ap₂ differing_count (take_all (length copy) copy (omega arith)) (take_all (length copy) mine (omega arith))

  first-grows : (few many : ℕ) → few ≤ many → many ≤ length copy → first few ≤ first many
  first-grows few many less within =
      let e : few + (many - few) ≡ many = omega arith in
      let more = differing_count-more copy mine few (many - few) (omega arith) sizes in
      let grown : first (few + (many - few)) ≡ first many = ap first e in
      omega (arith, more, grown)

  -- two groups side by side have at most all places
  two-groups : (low high : ℕ) → low + 128 ≤ high → high + 128 ≤ length copy → differing_in low copy mine + differing_in high copy mine ≤ differing_count copy mine
  two-groups low high apart within =
      omega (
        arith,
        differing_count-more copy mine low 128 (omega arith) sizes,
        first-grows (low + 128) high apart (omega arith),
        differing_count-more copy mine high 128 (omega arith) sizes,
        first-grows (high + 128) (length copy) within (omega arith),
        first-all,
      )

  pub in-one-group : (place : ℕ) → place % 128 ≡ 0 → place + 128 ≤ length copy → (0 < differing_count copy mine → 0 < differing_in place copy mine) →
      AreOfOneGroup copy mine → differing_in place copy mine ≡ differing_count copy mine
  in-one-group place aligned within some (at, aligned', within', all) =
      elim (cases_eq at place) [
        | inl here ↦ ap (λ group. differing_in group copy mine) (sym here) ∙ all
        | inr other ↦ apart (cases_lt at place) other
      ]
    where
      none : differing_in at copy mine + differing_in place copy mine ≤ differing_count copy mine → differing_in place copy mine ≡ differing_count copy mine
      none both = elim (cases_lt 0 (differing_count copy mine)) [
        | inl more ↦ (let here : 0 < differing_in place copy mine = some more in absurd (omega (arith, all)))
        | inr zero ↦ omega (arith, all)
      ]

      apart : (at < place) ⊎ (place ≤ at) → at ≢ place → differing_in place copy mine ≡ differing_count copy mine
      apart (inl before) other = none (two-groups at place (omega arith) within)
      apart (inr after) other = none (let both = two-groups place at (omega arith) within' in omega arith)
