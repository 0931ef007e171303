use Rattle.std.proofs.Common.{◌≡◌, ◌<◌, ℕ, List, arith, ⊎_elim, inl, inr}
use Rattle.std.specs.Prelude.{◌⊎◌, ◌↔◌}
use Rattle.std.proofs.lemmas.List.{get_or_read}
use Rattle.races.specs.Clocks.{time}
use Rattle.races.proofs.Times.{raised, raised_not}
use Rattle.races.proofs.clock.Clock.raise.Goals as goal

-- from the times before a list was lengthened
from_before : (old new : ℕ → ℕ) (thread to after other index : ℕ) → new other ≡ old other → (index < after) ↔ ((index < new other) ⊎ ((thread ≡ other) × (index < to)))
    → (index < after) ↔ ((index < old other) ⊎ ((thread ≡ other) × (index < to)))
from_before old new thread to after other index same known = (
  λ small. ⊎_elim (λ before. inl (omega arith)) (λ now. inr now) (known.0 small),
  λ either. known.1 (⊎_elim (λ before. inl (omega arith)) (λ now. inr now) either),
)

pub returns-then-index-to : goal.returns-then-index-to
returns-then-index-to c other index =
    let items : List ℕ = c.reach.new.self.times.items in
    let inside = c.in_ok-reach.ensures.inside in
    let long = c.reach.new.self.times.ok.0 in
    let read = get_or_read items c.args.thread c.index.result.now (omega arith) c.index.ensures 0 in
    let less = c.if-index-to.true in
    from_before (time c.args.self.now) (time c.reach.new.self) c.args.thread c.args.to _ other index (c.in_ok-reach.ensures.same other)
    (raised items c.args.thread c.args.to (omega arith) (omega arith) other index)

pub returns-else-index-to : goal.returns-else-index-to
returns-else-index-to c other index =
    let items : List ℕ = c.reach.new.self.times.items in
    let inside = c.in_ok-reach.ensures.inside in
    let long = c.reach.new.self.times.ok.0 in
    let read = get_or_read items c.args.thread c.index.result.now (omega arith) c.index.ensures 0 in
    let late = c.if-index-to.false in
    from_before (time c.args.self.now) (time c.reach.new.self) c.args.thread c.args.to _ other index (c.in_ok-reach.ensures.same other)
    (raised_not (time c.reach.new.self) c.args.thread c.args.to (omega arith) other index)
