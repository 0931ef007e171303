-- A run goes on from none of its last positions.
use Rattle.std.proofs.Common.{◌≡◌, ◌∙◌, ℕ, zero, suc, ◌+◌, ◌-◌, ◌<◌, ◌≤◌, Option, Some, None, refl, ap, arith}
use Rattle.std.specs.Prelude.{option_and_then}
use Rattle.hart.specs.declared.stop.Stop.{Stop}
use Rattle.hart.specs.declared.stop.Stop.TheVariants.{Trap, Ecall, Quantum}
use Rattle.token.specs.Point.{Point, need_at}
use Rattle.token.specs.declared.need.Need.{Need}
use Rattle.token.specs.declared.need.Need.TheVariants as need
use Rattle.timeline.specs.Halting.{end_at, end_by_need, end_by_stop}
use Rattle.timeline.specs.Halts.{first_of}
use Rattle.timeline.specs.Moment.{Moment, Origin, moment_at, next_in, next_moment, stepped, stop_in, origin_at, origin_by}
use Rattle.timeline.specs.declared.halt.Halt.{Halt}
use Rattle.timeline.specs.declared.halt.Halt.TheVariants.{End}
use Rattle.timeline.proofs.Positions.{then_next}

by_stop : (point : Point) (origin : Origin) (steps : ℕ) (halt : Halt) (stop : Option Stop) → first_of (end_by_stop stop) None ≡ Some halt → stepped point origin steps stop ≡ None
by_stop point origin steps halt None is = absurd (cc)
by_stop point origin steps halt (Some (Trap trap)) is = refl
by_stop point origin steps halt (Some Ecall) is = absurd (cc)
by_stop point origin steps halt (Some Quantum) is = absurd (cc)

by_need : (point : Point) (steps : ℕ) (halt : Halt) (asked : Need)
    → first_of (end_by_stop (option_and_then (λ origin. stop_in origin steps) (origin_by point asked))) (end_by_need asked) ≡ Some halt → next_in point steps (origin_by point asked) asked ≡ None
by_need point steps halt (need.Segment work) is =
    let origin : Origin = record { work = work; copy = point.base } in
    by_stop point origin steps halt (stop_in origin steps) is
by_need point steps halt (need.Keeper work) is =
    let origin : Origin = record { work = work; copy = point.state.memory } in
    by_stop point origin steps halt (stop_in origin steps) is
by_need point steps halt (need.Wake thread) is = absurd (cc)
by_need point steps halt (need.Ended outcome) is = refl

-- none follows the last position
pub none_follows : (moment : Moment) (halt : Halt) → end_at moment ≡ Some halt → next_moment moment ≡ None
unfolding end_at next_moment origin_at
none_follows moment halt is = by_need moment.point moment.steps halt (need_at moment.point) is

none_later : (start : Point) (step more : ℕ) → moment_at start step ≡ None → moment_at start (step + more) ≡ None
unfolding moment_at
none_later start step zero none = let same : step + 0 ≡ step = omega arith in ap (moment_at start) same ∙ none
none_later start step (suc more) none =
    let same : step + suc more ≡ suc (step + more) = omega arith in
    ap (moment_at start) same ∙ ap (option_and_then next_moment) (none_later start step more none)

-- a run that leads to a step isn't at its last position before it
pub leads_on : (start : Point) (step to : ℕ) (moment last : Moment) (halt : Halt) → moment_at start step ≡ Some moment → end_at moment ≡ Some halt → step < to → moment_at start to ≡ Some last → ⊥
leads_on start step to moment last halt there end below leads =
    let none : moment_at start (suc step) ≡ None = then_next start step moment there ∙ none_follows moment halt end in
    let same : to ≡ suc step + (to - suc step) = omega (arith, below) in
    let later : moment_at start to ≡ None = ap (moment_at start) same ∙ none_later start (suc step) (to - suc step) none in
    cc

some_or_none : (found : Option Moment) → (found ≡ None → ⊥) → (moment : Moment) × (found ≡ Some moment)
some_or_none None never = absurd (never refl)
some_or_none (Some moment) never = (moment, refl)

-- a run that leads to a step leads to those before it
pub earlier : (start : Point) (step to : ℕ) (last : Moment) → step ≤ to → moment_at start to ≡ Some last → (moment : Moment) × (moment_at start step ≡ Some moment)
earlier start step to last within leads = some_or_none (moment_at start step) (λ none.
    let same : to ≡ step + (to - step) = omega (arith, within) in
    let later : moment_at start to ≡ None = ap (moment_at start) same ∙ none_later start step (to - step) none in
    cc)

pub only_end : (moment : Moment) (halt : Halt) → end_at moment ≡ Some halt → halt ≡ End
unfolding end_at origin_at
only_end moment halt is = by (need_at moment.point) is
  where
    ends : (stop : Option Stop) → first_of (end_by_stop stop) None ≡ Some halt → halt ≡ End
    ends None is = absurd (cc)
    ends (Some (Trap trap)) is = cc
    ends (Some Ecall) is = absurd (cc)
    ends (Some Quantum) is = absurd (cc)

    by : (asked : Need) → first_of (end_by_stop (option_and_then (λ origin. stop_in origin moment.steps) (origin_by moment.point asked))) (end_by_need asked) ≡ Some halt → halt ≡ End
    by (need.Segment work) is = ends (stop_in (record { work = work; copy = moment.point.base }) moment.steps) is
    by (need.Keeper work) is = ends (stop_in (record { work = work; copy = moment.point.state.memory }) moment.steps) is
    by (need.Wake thread) is = absurd (cc)
    by (need.Ended outcome) is = cc
