-- The thread of the last turn is kept.
use Rattle.std.proofs.Common.{◌≡◌, ◌∙◌, ℕ, ◌<◌, Option, None, [], ◌∷◌, refl, sym, subst, ap, arith}
use Rattle.std.specs.Prelude.{IfSome}
use Rattle.token.proofs.NextStep.{turn_stands}
use Rattle.token.specs.History.{thread_of}
use Rattle.token.specs.Point.{IsNeededAt, Point, moved, step_at}
use Rattle.token.specs.Serial.{Invariants, StandsAfter}
use Rattle.segment.specs.declared.segment_end.SegmentEnd.{SegmentEnd}
use Rattle.timeline.specs.Last.{IsLast}
use Rattle.timeline.specs.Present.{IsSound, SameTurn, StaysInRun, point_at, steps_of}
use Rattle.timeline.proofs.Turning.{same_begins, same_point}
use Rattle.timeline.specs.declared.present.Present.{Present}
use Rattle.token.specs.Setup.{Setup}
use Rattle.token.specs.declared.turn.Turn.{Turn}

-- of no turn
pub first_last : (point : Point) → StandsAfter point [] → Invariants point → IsLast point 0
unfolding thread_of
first_last point stands holds = record { history = []; stands = stands; holds = holds; thread_is = refl }

-- after a further turn it is that turn's
pub last_turned : (point new : Point) (last thread : ℕ) (end : Option SegmentEnd) → IsLast point last → IsNeededAt point end → new ≡ moved point (step_at point end)
    → thread ≡ (step_at point end).turn.thread → IsLast new thread
unfolding thread_of
last_turned point new last thread end before needed is same =
    let next = turn_stands point before.history end before.stands before.holds needed in
    let turned : IsLast (moved point (step_at point end)) (step_at point end).turn.thread =
    record { history = step_at point end ∷ before.history; stands = next.0; holds = next.1; thread_is = refl } in
    rw (is, same) turned

-- the same of a point that is written otherwise
pub last_of_turn : (point before new : Point) (last : ℕ) (end : Option SegmentEnd) (turn : Turn) → IsLast point last → IsNeededAt point end → before ≡ point → new ≡ moved before (step_at before end)
    → turn ≡ (step_at before end).turn → IsLast new turn.thread
last_of_turn point before new last end turn is needed same moves done =
    last_turned point new last turn.thread end is needed (moves ∙ ap (λ (p : Point). moved p (step_at p end)) same)
    (ap (λ (t : Turn). t.thread) done ∙ ap (λ (p : Point). (step_at p end).turn.thread) same)

pub quantum_of_turn : (point before new : Point) → before ≡ point → new.setup ≡ before.setup → IfSome point.setup.quantum (λ q. 0 < q) → IfSome new.setup.quantum (λ q. 0 < q)
quantum_of_turn point before new same kept some =
    let setup : point.setup ≡ new.setup = ap (λ (p : Point). p.setup) (sym same) ∙ sym kept in
    subst (λ (s : Setup). IfSome s.quantum (λ q. 0 < q)) setup some

-- in the same turn it stays
pub same_last : (old new : Point) (last other : ℕ) → IsLast old last → new ≡ old → other ≡ last → IsLast new other
same_last old new last other is point same = rw (point, same) is

-- a turn that is begun again stays in its run
pub stays_at_start : (old new : Present) → IsSound old → new.serial ≡ old.serial → new.before ≡ old.before → new.last ≡ old.last → new.underway ≡ None → StaysInRun old new
stays_at_start old new sound serial before last none =
    let same : SameTurn old new = record { serial = serial; before = before; last = last } in
    let point : point_at new ≡ point_at old = same_point new old serial in
    record {
      sound = record {
        turns = rw none tt;
        few = let steps : steps_of new.underway ≡ 0 = ap steps_of none in omega (arith, sound.few, before, steps);
        quantum = quantum_of_turn (point_at old) (point_at old) (point_at new) refl (ap (λ (p : Point). p.setup) point) sound.quantum;
        last = same_last (point_at old) (point_at new) old.last new.last sound.last point last;
      };
      begins = λ start begins. same_begins start old new same begins;
    }
