use Rattle.std.proofs.Common.{◌≡◌, ℕ, ◌<◌, ◌≤◌, false, refl, arith, sym, subst}
use Rattle.std.specs.Option.{IsSome}
use Rattle.std.specs.Ordering.{is_lt, nat_cmp}
use Rattle.std.specs.declared.cmp.Ordering.TheVariants.{Less}
use Rattle.std.proofs.lemmas.Bool.Decides.{nat_tests}
use Rattle.races.proofs.freed_parts.FreedParts.last_before.Goals as goal

below : (one other : ℕ) → nat_cmp one other ≡ Less → one < other
below one other is = grind (arith, nat_tests)

is_below : (one other : ℕ) → one < other → nat_cmp one other ≡ Less
is_below one other less = grind (arith, nat_tests)

not_below : (one other : ℕ) → is_lt (nat_cmp one other) ≡ false → other ≤ one
not_below one other is = grind (arith, nat_tests)

pub returns-in-Some : goal.returns-in-Some
returns-in-Some c =
    let h = (c.range.ensures.in_range tt).3 _ _ c.in-Some.ensures.steps in
    let k = (c.range.ensures.in_range tt).4 _ _ c.in-Some.ensures.steps in (
      h.1,
      below c.in-Some.start.now c.args.end h.0.1,
      λ start part is less. not_below c.in-Some.start.now start (k start (tt, is_below start c.args.end less) (subst IsSome (sym is) refl)),
    )
