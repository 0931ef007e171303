-- Lists of events.
use Rattle.std.proofs.Common.{◌≡◌, ◌+◌, ◌∙◌, ℕ, Bool, true, false, Option, Some, None, List, [], ◌∷◌, ◌++◌, length, refl, ap, sym, subst, take}
use Rattle.std.specs.Prelude.{Ok, Err, is_some, if◌then◌else◌, ◌==◌, ◌||◌, nat_lt, slice_get}
use Rattle.schedule.specs.declared.event.Event.{Event}
use Rattle.schedule.specs.declared.event.Event.TheVariants.{Draw, Step as AStep, Note, Skip, Post, Hold, Turn}
use Rattle.token.specs.Point.{Point, after_step, counted, moved, next_phase, passed_on, step_at}
use Rattle.token.specs.Setup.{list_in}
use Rattle.token.specs.Turns.{Step}
use Rattle.schedule_core.specs.Faults.{IsAnswerTo}
use Rattle.schedule_core.specs.Tally.{HappenInTurn, Happens, IsRefusedAt, Moves, Tally, refusal_of}
use Rattle.schedule_core.specs.declared.event_fault.EventFault.{EventFault}
use Rattle.schedule_core.proofs.Turning.{begun, ended}

-- an event that was done wasn't refused
pub not_refused : (refusal : Option EventFault) → IsAnswerTo refusal (Ok tt) → refusal ≡ None
not_refused None answer = refl
not_refused (Some fault) answer = absurd answer

-- one event more
pub happen_more : (before : Point) (old : Tally) (events : List Event) (between : Point) (tally : Tally) (event : Event) (after : Point) (new : Tally)
    → HappenInTurn before old events between tally → refusal_of between tally event ≡ None → Happens between tally event after new
    → HappenInTurn before old (events ++ event ∷ []) after new
unfolding HappenInTurn
happen_more before old [] between tally event after new happened allowed happens = (
  after,
  new,
  subst (λ (point : Point). refusal_of point old event ≡ None) happened.0 (subst (λ (tally : Tally). refusal_of between tally event ≡ None) happened.1 allowed),
  subst (λ (point : Point). Happens point old event after new) happened.0 (subst (λ (tally : Tally). Happens between tally event after new) happened.1 happens),
  (refl, refl),
)
happen_more before old (first ∷ events) between tally event after new happened allowed happens =
    (happened.0, happened.1, happened.2, happened.3, happen_more happened.0 happened.1 events between tally event after new happened.4 allowed happens)

-- an event is refused after those before it
pub refused_at : (before : Point) (old : Tally) (events : List Event) (place : ℕ) (event : Event) (fault : EventFault) (between after : Point) (tally new : Tally)
    → slice_get events place ≡ Some event → HappenInTurn before old (take place events) between tally → IsAnswerTo (refusal_of between tally event) (Err fault)
    → after ≡ between → new ≡ tally → IsRefusedAt before old events place fault after new
refused_at before old events place event fault between after tally new there happened refused same told =
    subst (λ (point : Point). IsRefusedAt before old events place fault point new) (sym same)
    (subst (λ (given : Tally). IsRefusedAt before old events place fault between given) (sym told)
    (record { event = event; there = there; happened = happened; refused = refused }))

-- none has happened
pub happen_none : (before : Point) (old : Tally) → HappenInTurn before old [] before old
unfolding HappenInTurn
happen_none before old = (refl, refl)

-- what a run was given stays, whatever happens
going_setup : (point : Point) (list : List ℕ) (goes empty : Bool) → (if goes then point else (if empty then ended point else begun point list)).setup ≡ point.setup
going_setup point list true empty = refl
going_setup point list false true = refl
going_setup point list false false = refl

moved_setup : (point : Point) (step : Step) → (moved point step).setup ≡ point.setup
unfolding passed_on next_phase after_step counted
moved_setup point step =
    let after : Point = after_step point step in
    going_setup after (list_in after.setup (after.phase + 1) after.state.threads) (is_some after.ended || is_some after.keeper || nat_lt after.given (length after.list)) (length (list_in after.setup (after.phase + 1) after.state.threads) == 0)

moves_setup : (before after : Point) (event : Event) → Moves before after event → after.setup ≡ before.setup
moves_setup before after (Draw worker) moves = ap (λ (point : Point). point.setup) moves
moves_setup before after (AStep worker) moves = ap (λ (point : Point). point.setup) moves
moves_setup before after (Note worker) moves = ap (λ (point : Point). point.setup) moves
moves_setup before after (Skip worker) moves = ap (λ (point : Point). point.setup) moves
moves_setup before after (Post worker) moves = ap (λ (point : Point). point.setup) moves
moves_setup before after Hold moves = ap (λ (point : Point). point.setup) moves
moves_setup before after Turn moves = ap (λ (point : Point). point.setup) moves.done ∙ moved_setup before (step_at before moves.end)

pub happen_setup : (before : Point) (old : Tally) (events : List Event) (after : Point) (new : Tally) → HappenInTurn before old events after new → after.setup ≡ before.setup
unfolding HappenInTurn
happen_setup before old [] after new happened = ap (λ (point : Point). point.setup) happened.0
happen_setup before old (event ∷ events) after new happened =
    happen_setup happened.0 happened.1 events after new happened.4 ∙ moves_setup before happened.0 event happened.3.moves
