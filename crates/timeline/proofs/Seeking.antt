-- Where the motions to a step end.
use Rattle.std.proofs.Common.{◌≡◌, ℕ, ◌-◌, ◌<◌, ◌≤◌, Bool, true, false, inl, inr, arith, refl}
use Rattle.std.proofs.lemmas.Bool.Decides.{nat_tests}
use Rattle.std.specs.Prelude.{◌==◌, min}
use Rattle.timeline.specs.Going.{IsAtEnd, IsSought, goal_of}
use Rattle.timeline.specs.Halting.{HaltsThere}
use Rattle.timeline.specs.Halts.{Wanted, nothing}
use Rattle.timeline.specs.Present.{moment_of, step_of}
use Rattle.timeline.specs.declared.halt.Halt.{Halt}
use Rattle.timeline.specs.declared.halt.Halt.TheVariants.{End}
use Rattle.timeline.specs.declared.present.Present.{Present}
use Rattle.timeline.proofs.Backing.{halts_at_end}

pub end_there : (wanted : Wanted) (goal : ℕ) (halt : Halt) (present : Present) → wanted ≡ nothing → HaltsThere wanted goal halt present → halt ≡ End → (step_of present < goal) × IsAtEnd present
end_there wanted goal halt present same (inl (goes, there)) is = absurd (cc)
end_there wanted goal halt present same (inr (below, told)) is = (below, (halts_at_end (moment_of present) halt (rw same at told)).1)

pub goes_there : (wanted : Wanted) (goal : ℕ) (halt : Halt) (present : Present) → wanted ≡ nothing → HaltsThere wanted goal halt present → (halt ≡ End → ⊥) → step_of present ≡ goal
goes_there wanted goal halt present same (inl (goes, there)) never = there
goes_there wanted goal halt present same (inr (below, told)) never = absurd (never (halts_at_end (moment_of present) halt (rw same at told)).0)

sought_by : (old new : Present) (step most : ℕ) (is : Bool) → (step_of new == step) ≡ is → step_of old ≤ step → step_of new ≡ goal_of old (min most (step - step_of old)) → IsSought old step most is new
sought_by old new step most true is from there = inl (grind (arith, nat_tests, is))
sought_by old new step most false is from there =
    let other : step_of new ≡ step → ⊥ = λ same. grind (arith, nat_tests, is, same) in
    (omega (arith, from, there, other), omega (arith, from, there, other))

-- a motion that wasn't halted stands at the step, or has made as many as were allowed
pub sought : (old new : Present) (step most : ℕ) → step_of old ≤ step → step_of new ≡ goal_of old (min most (step - step_of old)) → IsSought old step most (step_of new == step) new
sought old new step most from there = sought_by old new step most (step_of new == step) refl from there
