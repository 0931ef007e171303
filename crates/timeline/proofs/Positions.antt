-- Where the steps of a turn lead.
use Rattle.std.proofs.Common.{◌≡◌, ◌∙◌, ℕ, zero, suc, ◌+◌, ◌<◌, Option, Some, None, IfSome, refl, sym, ap, subst, arith, add-one}
use Rattle.std.specs.Prelude.{option_and_then, option_map}
use Rattle.guest_memory.specs.Memory.{Memory}
use Rattle.hart.specs.HartState.{HartState}
use Rattle.hart.specs.Segment.{counted}
use Rattle.hart.specs.declared.stop.Stop.{Stop}
use Rattle.hart.specs.declared.stop.Stop.TheVariants.{Trap, Ecall, Quantum}
use Rattle.segment.specs.Ends.{IsEndOf}
use Rattle.shuffled_phases.proofs.Quanta as drawn
use Rattle.token.specs.Setup.{quantum_in}
use Rattle.token.specs.Point.{Point, IsNeededAt, IsNeededBy, base_at, due_at, need_at, need_by, need_of, work_from}
use Rattle.token.specs.declared.due.Due.{Due}
use Rattle.token.specs.declared.due.Due.TheVariants as due
use Rattle.token.specs.declared.need.Need.{Need}
use Rattle.token.specs.declared.need.Need.TheVariants as need
use Rattle.token.specs.declared.need.Work.{Work}
use Rattle.token.specs.declared.outcome.RunOutcome.{RunOutcome}
use Rattle.segment.specs.declared.segment_end.SegmentEnd.{SegmentEnd}
use Rattle.timeline.specs.Moment.{Moment, Origin, beginning, end_by, executed, moment_at, next_in, next_moment, over, stepped, stop_in, origin_at, origin_by, turned}
use Rattle.timeline.specs.Underway.{IsLast}

goes : (point : Point) (origin : Origin) (steps : ℕ) (stop : Option Stop) → (stop ≡ Some Quantum → ⊥) → executed point origin steps stop ≡ Some (record { point = point; steps = steps })
goes point origin steps None other = refl
goes point origin steps (Some Ecall) other = refl
goes point origin steps (Some (Trap trap)) other = refl
goes point origin steps (Some Quantum) other = absurd (other refl)

-- a step in a segment is that of its stop
pub in_segment : (point : Point) (origin : Origin) (steps : ℕ) → origin_at point ≡ Some origin → next_moment (record { point = point; steps = steps }) ≡ stepped point origin steps (stop_in origin steps)
unfolding next_moment
in_segment point origin steps is = ap (λ origin. next_in point steps origin (need_at point)) is

one_more : (point : Point) (origin : Origin) (steps : ℕ) → origin_at point ≡ Some origin → stop_in origin steps ≡ None → (stop_in origin (suc steps) ≡ Some Quantum → ⊥)
    → next_moment (record { point = point; steps = steps }) ≡ Some (record { point = point; steps = suc steps })
one_more point origin steps is none other =
    in_segment point origin steps is ∙ ap (stepped point origin steps) none
    ∙ ap (λ more. executed point origin more (stop_in origin more)) (add-one steps) ∙ goes point origin (suc steps) (stop_in origin (suc steps)) other

-- the first position of a run
pub at_start : (start : Point) → moment_at start 0 ≡ Some (beginning start)
unfolding moment_at
at_start start = refl

-- the position after a step
pub then_next : (start : Point) (steps : ℕ) (moment : Moment) → moment_at start steps ≡ Some moment → moment_at start (suc steps) ≡ next_moment moment
unfolding moment_at
then_next start steps moment there = ap (option_and_then next_moment) there

-- where a turn begins after so many steps, so many of its instructions lead on
pub within_turn : (start point : Point) (origin : Origin) (before steps : ℕ) → moment_at start before ≡ Some (beginning point) → origin_at point ≡ Some origin
    → ((k : ℕ) → k < steps → stop_in origin k ≡ None) → (stop_in origin steps ≡ Some Quantum → ⊥)
    → moment_at start (before + steps) ≡ Some (record { point = point; steps = steps })
within_turn start point origin before zero begins is runs other = let same : before + 0 ≡ before = omega arith in ap (moment_at start) same ∙ begins
within_turn start point origin before (suc steps) begins is runs other =
    let none = runs steps (omega arith) in
    let inner = within_turn start point origin before steps begins is (λ k below. runs k (omega arith)) (λ quantum. cc) in
    let same : before + suc steps ≡ suc (before + steps) = omega arith in
    ap (moment_at start) same ∙ then_next start (before + steps) _ inner ∙ one_more point origin steps is none other

-- the end of a segment is told by its steps
same_end : (origin : Origin) (end : SegmentEnd) (of_it : IsEndOf origin.copy origin.work.segment end) → end_by origin.copy end.stop of_it.segment_is.steps (end.hart, of_it.memory) ≡ end
same_end origin end of_it = λ i. record { hart = end.hart; stop = end.stop; count = sym of_it.segment_is.count_is i; patch = sym of_it.patch i }

over_is : (point : Point) (origin : Origin) (end : SegmentEnd) (of_it : IsEndOf origin.copy origin.work.segment end) → over point origin end.stop of_it.segment_is.steps ≡ Some (turned point (Some end))
over_is point origin end of_it =
    ap (option_map (λ (state : HartState × Memory). turned point (Some (end_by origin.copy end.stop of_it.segment_is.steps state)))) of_it.segment_is.reached
    ∙ ap (λ (end : SegmentEnd). Some (turned point (Some end))) (same_end origin end of_it)

by_call : (start point : Point) (origin : Origin) (before : ℕ) (end : SegmentEnd) → moment_at start before ≡ Some (beginning point) → origin_at point ≡ Some origin
    → (of_it : IsEndOf origin.copy origin.work.segment end) → end.stop ≡ Ecall → moment_at start (before + end.count) ≡ Some (turned point (Some end))
by_call start point origin before end begins is of_it call =
    let steps : ℕ = of_it.segment_is.steps in
    let stops : stop_in origin steps ≡ Some Ecall = of_it.segment_is.stops ∙ ap Some call in
    let count : end.count ≡ steps + 1 = of_it.segment_is.count_is ∙ ap (λ stop. counted stop steps) call in
    let same : before + end.count ≡ suc (before + steps) = omega arith in
    let there = within_turn start point origin before steps begins is of_it.segment_is.running (λ quantum. cc) in
    ap (moment_at start) same ∙ then_next start (before + steps) _ there
    ∙ in_segment point origin steps is ∙ ap (stepped point origin steps) stops ∙ ap (λ stop. over point origin stop steps) (sym call) ∙ over_is point origin end of_it

used : (start point : Point) (origin : Origin) (before : ℕ) (end : SegmentEnd) (steps : ℕ) → moment_at start before ≡ Some (beginning point) → origin_at point ≡ Some origin
    → (of_it : IsEndOf origin.copy origin.work.segment end) → end.stop ≡ Quantum → of_it.segment_is.steps ≡ suc steps → moment_at start (before + suc steps) ≡ Some (turned point (Some end))
used start point origin before end steps begins is of_it quantum steps_are =
    let stops : stop_in origin (suc steps) ≡ Some Quantum = ap (stop_in origin) (sym steps_are) ∙ of_it.segment_is.stops ∙ ap Some quantum in
    let none : stop_in origin steps ≡ None = of_it.segment_is.running steps (omega arith) in
    let there = within_turn start point origin before steps begins is (λ k below. of_it.segment_is.running k (omega arith)) (λ other. cc) in
    let same : before + suc steps ≡ suc (before + steps) = omega arith in
    ap (moment_at start) same ∙ then_next start (before + steps) _ there
    ∙ in_segment point origin steps is ∙ ap (stepped point origin steps) none
    ∙ ap (λ more. executed point origin more (stop_in origin more)) (add-one steps) ∙ ap (executed point origin (suc steps)) stops
    ∙ ap (λ more. over point origin Quantum more) (sym steps_are) ∙ ap (λ stop. over point origin stop of_it.segment_is.steps) (sym quantum) ∙ over_is point origin end of_it

-- The position after a turn, where that begins after so many steps.
pub after_turn : (start point : Point) (origin : Origin) (before : ℕ) (end : SegmentEnd) → moment_at start before ≡ Some (beginning point) → origin_at point ≡ Some origin
    → IsLast origin end → 0 < end.count → moment_at start (before + end.count) ≡ Some (turned point (Some end))
after_turn start point origin before end begins is last some = by_stop end.stop refl
  where
    of_it : IsEndOf origin.copy origin.work.segment end
    of_it = last.end_of

    by_stop : (stop : Stop) → end.stop ≡ stop → moment_at start (before + end.count) ≡ Some (turned point (Some end))
    by_stop Ecall stops = by_call start point origin before end begins is of_it stops
    by_stop (Trap trap) stops = absurd (last.no_trap trap stops)
    by_stop Quantum stops = by_steps of_it.segment_is.steps refl
      where
        count : end.count ≡ of_it.segment_is.steps
        count = of_it.segment_is.count_is ∙ ap (λ stop. counted stop of_it.segment_is.steps) stops

        by_steps : (steps : ℕ) → of_it.segment_is.steps ≡ steps → moment_at start (before + end.count) ≡ Some (turned point (Some end))
        by_steps zero steps_are = absurd (omega (arith, count))
        by_steps (suc steps) steps_are = ap (λ more. moment_at start (before + more)) (count ∙ steps_are) ∙ used start point origin before end steps begins is of_it stops steps_are

-- The position after a wake.
pub after_wake : (start point : Point) (before : ℕ) → moment_at start before ≡ Some (beginning point) → IsNeededAt point None → moment_at start (before + 1) ≡ Some (turned point None)
unfolding next_moment origin_at
after_wake start point before begins needed =
    ap (moment_at start) (add-one before) ∙ then_next start before (beginning point) begins ∙ by_need (need_at point) needed
  where
    by_need : (asked : Need) → IsNeededBy point asked None → next_in point 0 (origin_by point asked) asked ≡ Some (turned point None)
    by_need (need.Wake thread) needed = refl
    by_need (need.Segment work) needed = absurd needed
    by_need (need.Keeper work) needed = absurd needed
    by_need (need.Ended outcome) needed = absurd needed

-- a segment's end is what its turn needs
pub end_needed : (point : Point) (origin : Origin) (end : SegmentEnd) → origin_at point ≡ Some origin → IsEndOf origin.copy origin.work.segment end → IsNeededAt point (Some end)
unfolding origin_at
end_needed point origin end is of_it = by_need (need_at point) is
  where
    by_need : (asked : Need) → origin_by point asked ≡ Some origin → IsNeededBy point asked (Some end)
    by_need (need.Segment work) is = let same : record { work = work; copy = point.base } ≡ origin = cc in subst (λ (origin : Origin). IsEndOf origin.copy origin.work.segment end) (sym same) of_it
    by_need (need.Keeper work) is = let same : record { work = work; copy = point.state.memory } ≡ origin = cc in subst (λ (origin : Origin). IsEndOf origin.copy origin.work.segment end) (sym same) of_it
    by_need (need.Wake thread) is = cc
    by_need (need.Ended outcome) is = cc

-- a turn without a segment, of a run that goes on, is a wake
pub wake_needed : (point : Point) → origin_at point ≡ None → ((outcome : RunOutcome) → need_at point ≡ need.Ended outcome → ⊥) → IsNeededAt point None
unfolding origin_at
wake_needed point none goes_on = by_need (need_at point) none goes_on
  where
    by_need : (asked : Need) → origin_by point asked ≡ None → ((outcome : RunOutcome) → asked ≡ need.Ended outcome → ⊥) → IsNeededBy point asked None
    by_need (need.Segment work) none goes_on = cc
    by_need (need.Keeper work) none goes_on = cc
    by_need (need.Wake thread) none goes_on = tt
    by_need (need.Ended outcome) none goes_on = absurd (goes_on outcome refl)

-- a segment has a quantum of at least 1 or none
pub some_quantum : (point : Point) (work : Work) → IfSome point.setup.quantum (λ q. 0 < q)
    → ((need_at point ≡ need.Segment work) → IfSome work.segment.quantum (λ q. 0 < q)) × ((need_at point ≡ need.Keeper work) → IfSome work.segment.quantum (λ q. 0 < q))
unfolding need_at
some_quantum point work some = by_end point.ended (due_at point)
  where
    by_end : (ended : Option RunOutcome) (who : Due)
        → ((need_by ended (need_of point who) ≡ need.Segment work) → IfSome work.segment.quantum (λ q. 0 < q)) × ((need_by ended (need_of point who) ≡ need.Keeper work) → IfSome work.segment.quantum (λ q. 0 < q))
    by_end (Some outcome) who = (λ is. cc, λ is. cc)
    by_end None (due.Fresh thread) = (
      λ is.
          let same : work_from point.setup (base_at point (due.Fresh thread)) thread (quantum_in point.setup point.phase thread point.base_threads) ≡ work = cc in
          subst (λ (w : Work). IfSome w.segment.quantum (λ q. 0 < q)) same (drawn.some_quantum point.setup.shuffle point.setup.quantum point.phase thread point.base_threads some),
      λ is. cc,
    )
    by_end None (due.Keeper thread) =
        (λ is. cc, λ is. let same : work_from point.setup (base_at point (due.Keeper thread)) thread None ≡ work = cc is in subst (λ (w : Work). IfSome w.segment.quantum (λ q. 0 < q)) same tt)
    by_end None (due.Woken thread mutex) = (λ is. cc, λ is. cc)
