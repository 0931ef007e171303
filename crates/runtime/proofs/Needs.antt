-- What the need of the next turn says of where the run stands.
use Rattle.std.proofs.Common.{◌≡◌, ◌∙◌, Option, Some, None, Result, Ok, Err, OnErr, ap, refl, sym}
use Rattle.token.specs.Point.{Point, due_at, need_at, need_by, need_of}
use Rattle.token.specs.Serial.{IsLonger}
use Rattle.token.specs.declared.due.Due.{Due}
use Rattle.token.specs.declared.due.Due.TheVariants as due
use Rattle.token.specs.declared.need.Need.{Need}
use Rattle.token.specs.declared.need.Need.TheVariants as need
use Rattle.token.specs.declared.outcome.RunOutcome.{RunOutcome}
use Rattle.runtime.specs.Turns.{Moves}

-- how a run has ended that needs this, if it has
abbrev pub end_in : Need → Option RunOutcome
end_in (need.Ended ends) = Some ends
end_in other = None

-- who is due doesn't need an end
end_of_due : (point : Point) (who : Due) → end_in (need_of point who) ≡ None
end_of_due point (due.Fresh thread) = refl
end_of_due point (due.Keeper thread) = refl
end_of_due point (due.Woken thread mutex) = refl

end_by : (ended : Option RunOutcome) (asked : Need) → end_in asked ≡ None → ended ≡ end_in (need_by ended asked)
end_by (Some ends) asked none = refl
end_by None asked none = sym none

-- how the run has ended, if it has
pub end_at : (point : Point) (asked : Need) → asked ≡ need_at point → point.ended ≡ end_in asked
unfolding need_at
end_at point asked is = end_by point.ended (need_of point (due_at point)) (end_of_due point (due_at point)) ∙ sym (ap end_in is)

-- a look for the next turn that found no end made a turn
pub goes_on : (ends : Option RunOutcome) (old new : Point) → ((outcome : RunOutcome) → ends ≡ Some outcome → ⊥) → Moves ends old new → IsLonger old new
goes_on (Some outcome) old new none moves = absurd (none outcome refl)
goes_on None old new none moves = moves

-- what is right anyway is right after an error
pub on_err : {T E : Type 0} → (answer : Result T E) (Is : Type 0) → Is → OnErr answer Is
on_err (Ok given) Is is = tt
on_err (Err fault) Is is = is
