-- How a run comes back to where it stood.
use Rattle.std.proofs.Common.{◌≡◌, ◌∙◌, ℕ, ◌-◌, ◌<◌, ◌≤◌, ◌^◌, ◌⊎◌, Bool, true, false, Option, Some, None, refl, sym, ap, arith, inl, inr}
use Rattle.std.proofs.lemmas.Bool.{cases_order}
use Rattle.std.proofs.lemmas.Bool.Decides.{nat_tests}
use Rattle.std.specs.Prelude.{◌==◌}
use Rattle.token.specs.Point.{Point}
use Rattle.timeline.specs.Going.{IsSought}
use Rattle.timeline.specs.Moment.{Moment, moment_at}
use Rattle.timeline.specs.Present.{moment_of, step_of}
use Rattle.timeline.specs.declared.halt.Halt.TheVariants.{End}
use Rattle.timeline.specs.declared.present.Present.{Present}
use Rattle.timeline.proofs.Ending.{leads_on}
use Rattle.gdb_monitor.specs.Searching.{HasStep, same_or_none}

-- a run that leads to a step is found there
pub returns_to : (start : Point) (old new : Present) (here : ℕ) (is : Bool) (last : Moment) → moment_at start (step_of new) ≡ Some (moment_of new) → moment_at start here ≡ Some last → here ≤ 2 ^ 63
    → IsSought old here (2 ^ 64 - 1) is new → step_of new ≡ here
returns_to start old new here true last there leads few (inl is) = is
returns_to start old new here true last there leads few (inr (below, end)) = absurd (leads_on start (step_of new) here (moment_of new) last End there end below leads)
returns_to start old new here false last there leads few (goal, below) = absurd (omega (arith, goal, below, few))

some_or_none : (found : Option Moment) → (found ≡ None) ⊎ ((moment : Moment) × (found ≡ Some moment))
some_or_none None = inl refl
some_or_none (Some moment) = inr (moment, refl)

-- whether a run has a step that was sought
pub has_step : (start : Point) (old new : Present) (step : ℕ) (is : Bool) → moment_at start (step_of new) ≡ Some (moment_of new) → IsSought old step (2 ^ 64 - 1) is new
    → HasStep start step (same_or_none (step_of new) step)
has_step start old new step is there sought = by (step_of new == step) refl
  where
    small_or_not : (n : ℕ) → (n ≤ 2 ^ 63) ⊎ (2 ^ 63 < n)
    small_or_not n =
        elim (cases_order n (2 ^ 63)) [
          | inl same ↦ inl (omega (arith, same))
          | inr (inl below) ↦ inl (omega (arith, below))
          | inr (inr above) ↦ inr above
        ]

    none : (moment : Moment) → moment_at start step ≡ Some moment → step ≤ 2 ^ 63 → (step_of new == step) ≡ false → ⊥
    none moment leads small other =
        let same = returns_to start old new step is moment there leads small sought in
        grind (arith, nat_tests, same, other)

    lacks : (step_of new == step) ≡ false → (moment_at start step ≡ None) ⊎ (2 ^ 63 < step)
    lacks other =
        elim (some_or_none (moment_at start step)) [
          | inl is ↦ inl is
          | inr (moment, leads) ↦
              elim (small_or_not step) [
                | inl small ↦ absurd (none moment leads small other)
                | inr large ↦ inr large
              ]
        ]

    by : (test : Bool) → (step_of new == step) ≡ test → HasStep start step (same_or_none (step_of new) step)
    by true is =
        let same : step_of new ≡ step = grind (arith, nat_tests, is) in
        rw is (refl, (moment_of new, ap (moment_at start) (sym same) ∙ there))
    by false is = rw is (lacks is)
