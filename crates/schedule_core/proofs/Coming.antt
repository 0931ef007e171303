-- How a segment that is executed an instruction at a time goes on and stops.
use Rattle.std.proofs.Common.{◌≡◌, ◌∙◌, ℕ, ◌+◌, ◌<◌, ◌≤◌, Bool, true, false, Option, Some, None, refl, ap, sym, arith, add-one, ◌^◌}
use Rattle.std.specs.Prelude.{◌==◌, if◌then◌else◌, option_and_then}
use Rattle.std.proofs.lemmas.Bool.Decides.{nat_tests}
use borrow.Author.Count.{below_more}
use Rattle.guest_memory.specs.Memory.{Memory}
use Rattle.hart.specs.HartState.{HartState}
use Rattle.hart.specs.Next.{Next, Goes, next}
use Rattle.hart.specs.Segment as of_hart
use Rattle.hart.specs.Segment.{after, left_by, stop_at, stop_after, stop_of, is_used_up, counted, bound_trap}
use Rattle.hart.specs.declared.stop.Stop.{Stop}
use Rattle.hart.specs.declared.stop.Stop.TheVariants.{Trap, Ecall, Quantum}
use Rattle.schedule.specs.Phase.{advanced, is_end}
use Rattle.schedule.specs.Verdict.{GoesOn, Stops, EndsRun, ends_run, verdict_after, verdict_in, verdict_of}
use Rattle.schedule.specs.declared.job_progress.JobProgress.{JobProgress}
use Rattle.segment.specs.declared.segment.Segment.{Segment}
use Rattle.schedule_core.specs.Underway.{HasCome, limit_at}

-- the bound or the quantum comes first, and else the next instruction says what stops it
first_limit : (at_bound used : Bool) (stop : Option Stop) (what : Next)
    → (if at_bound then Some (Trap bound_trap) else (if used then Some Quantum else None)) ≡ stop
    → (stop ≡ None → (if at_bound then Some (Trap bound_trap) else (if used then Some Quantum else stop_of what)) ≡ stop_of what)
    × ((found : Stop) → stop ≡ Some found → (if at_bound then Some (Trap bound_trap) else (if used then Some Quantum else stop_of what)) ≡ Some found)
first_limit true used stop what is = (λ none. let no : ⊥ = cc in absurd no, λ found some. is ∙ some)
first_limit false true stop what is = (λ none. let no : ⊥ = cc in absurd no, λ found some. is ∙ some)
first_limit false false stop what is = (λ none. refl, λ found some. let no : ⊥ = cc in absurd no)

below_limit : (segment : Segment) (steps : ℕ) (what : Next) → limit_at segment steps ≡ None → stop_at segment.left segment.quantum steps what ≡ stop_of what
unfolding limit_at stop_at
below_limit segment steps what none = (first_limit (steps == segment.left) (is_used_up segment.quantum steps) None what none).0 refl

at_limit : (segment : Segment) (steps : ℕ) (what : Next) (stop : Stop) → limit_at segment steps ≡ Some stop → stop_at segment.left segment.quantum steps what ≡ Some stop
unfolding limit_at stop_at
at_limit segment steps what stop is = (first_limit (steps == segment.left) (is_used_up segment.quantum steps) (Some stop) what is).1 stop refl

-- where the limit isn't reached, a step is left
not_bound : (at_bound used : Bool) → (if at_bound then Some (Trap bound_trap) else (if used then Some Quantum else None)) ≡ None → at_bound ≡ false
not_bound true used is = let no : ⊥ = cc in absurd no
not_bound false used is = refl

pub step_left : (segment : Segment) (steps : ℕ) → limit_at segment steps ≡ None → steps ≤ segment.left → steps < segment.left
unfolding limit_at
step_left segment steps none within =
    let other : (steps == segment.left) ≡ false = not_bound (steps == segment.left) (is_used_up segment.quantum steps) none in
    grind (arith, nat_tests)

-- a limit is no ecall
limit_call : (at_bound used : Bool) → (if at_bound then Some (Trap bound_trap) else (if used then Some Quantum else None)) ≡ Some Ecall → ⊥
limit_call true used is = cc
limit_call false true is = cc
limit_call false false is = cc

no_call : (segment : Segment) (steps : ℕ) → limit_at segment steps ≡ Some Ecall → ⊥
unfolding limit_at
no_call segment steps is = limit_call (steps == segment.left) (is_used_up segment.quantum steps) is

-- the stop after the steps so far
stop_now : (segment : Segment) (memory : Memory) (hart : HartState) (cells : Memory) (steps : ℕ) → after steps segment.hart memory ≡ Some (hart, cells)
    → stop_after segment.hart memory segment.left segment.quantum steps ≡ stop_at segment.left segment.quantum steps (next hart cells)
unfolding stop_after
stop_now segment memory hart cells steps reached = ap (option_and_then (λ state. stop_at segment.left segment.quantum steps (next state.0 state.1))) reached

-- what it comes to after the steps so far
verdict_now : (segment : Segment) (memory : Memory) (hart : HartState) (cells : Memory) (steps : ℕ) → after steps segment.hart memory ≡ Some (hart, cells)
    → verdict_after segment.hart memory segment.left segment.quantum steps ≡ verdict_of hart (stop_at segment.left segment.quantum steps (next hart cells))
unfolding verdict_after
verdict_now segment memory hart cells steps reached = ap (verdict_in segment.left segment.quantum steps) reached

pub begins : (segment : Segment) (memory cells : Memory) → segment.left < 2 ^ 64 → cells ≡ memory → HasCome segment memory segment.hart cells 0 None
unfolding after
begins segment memory cells bounded same =
    record { reached = ap (λ cells. Some (segment.hart, cells)) (sym same); running = λ k below. absurd (omega arith); stops = tt; within = omega arith; bounded = bounded; call = λ is. let no : ⊥ = cc in absurd no }

-- it goes on by an instruction
pub goes_further : (segment : Segment) (memory : Memory) (hart next_hart : HartState) (cells next_cells : Memory) (steps : ℕ) (stop : Option Stop)
    → HasCome segment memory hart cells steps stop → stop ≡ None → limit_at segment steps ≡ None → next hart cells ≡ Goes next_hart next_cells
    → HasCome segment memory next_hart next_cells (steps + 1) stop
unfolding after
goes_further segment memory hart next_hart cells next_cells steps stop come none free goes =
    let left : steps < segment.left = step_left segment steps free come.within in
    rw none (record {
      reached = rw add-one (ap (option_and_then (λ state. left_by (next state.0 state.1))) come.reached ∙ ap left_by goes);
      running =
          below_more (λ k. stop_after segment.hart memory segment.left segment.quantum k ≡ None) steps come.running
          (stop_now segment memory hart cells steps come.reached ∙ below_limit segment steps (next hart cells) free ∙ ap stop_of goes);
      stops = tt;
      within = omega arith;
      bounded = come.bounded;
      call = λ is. let no : ⊥ = cc in absurd no;
    })

-- it stops
stops_here : (segment : Segment) (memory : Memory) (hart : HartState) (cells : Memory) (steps : ℕ) (before : Option Stop) (stop : Stop)
    → HasCome segment memory hart cells steps before → stop_at segment.left segment.quantum steps (next hart cells) ≡ Some stop → (stop ≡ Ecall → steps < segment.left)
    → HasCome segment memory hart cells steps (Some stop)
stops_here segment memory hart cells steps before stop come is call =
    record {
      reached = come.reached;
      running = come.running;
      stops = stop_now segment memory hart cells steps come.reached ∙ is;
      within = come.within;
      bounded = come.bounded;
      call = λ some. call (cc some);
    }

-- by the bound or the quantum
pub stops_at_limit : (segment : Segment) (memory : Memory) (hart : HartState) (cells : Memory) (steps : ℕ) (before : Option Stop) (stop : Stop)
    → HasCome segment memory hart cells steps before → limit_at segment steps ≡ Some stop → HasCome segment memory hart cells steps (Some stop)
stops_at_limit segment memory hart cells steps before stop come is =
    stops_here segment memory hart cells steps before stop come (at_limit segment steps (next hart cells) stop is)
    (λ call. absurd (no_call segment steps (is ∙ ap Some call)))

-- by the next instruction
pub stops_by_next : (segment : Segment) (memory : Memory) (hart : HartState) (cells : Memory) (steps : ℕ) (before : Option Stop) (stop : Stop)
    → HasCome segment memory hart cells steps before → limit_at segment steps ≡ None → stop_of (next hart cells) ≡ Some stop
    → HasCome segment memory hart cells steps (Some stop)
stops_by_next segment memory hart cells steps before stop come free is =
    stops_here segment memory hart cells steps before stop come (below_limit segment steps (next hart cells) free ∙ is)
    (λ call. step_left segment steps free come.within)

-- how far it has come then: a step more
pub counts_step : (segment : Segment) (memory : Memory) (hart next_hart : HartState) (cells next_cells : Memory) (steps : ℕ) (stop : Option Stop)
    → HasCome segment memory hart cells steps stop → limit_at segment steps ≡ None → next hart cells ≡ Goes next_hart next_cells
    → verdict_after segment.hart memory segment.left segment.quantum steps ≡ GoesOn
counts_step segment memory hart next_hart cells next_cells steps stop come free goes =
    verdict_now segment memory hart cells steps come.reached ∙ ap (verdict_of hart) (below_limit segment steps (next hart cells) free ∙ ap stop_of goes)

-- or that it has stopped
advanced_by : (ends : Bool) (progress : JobProgress) → advanced (if ends then EndsRun else Stops) progress ≡ record progress { stopped = true }
advanced_by true progress = refl
advanced_by false progress = refl

pub counts_stop : (segment : Segment) (memory : Memory) (hart : HartState) (cells : Memory) (steps : ℕ) (stop : Stop) (progress : JobProgress)
    → HasCome segment memory hart cells steps (Some stop)
    → advanced (verdict_after segment.hart memory segment.left segment.quantum steps) progress ≡ record progress { stopped = true }
counts_stop segment memory hart cells steps stop progress come =
    ap (λ verdict. advanced verdict progress)
    (verdict_now segment memory hart cells steps come.reached ∙ ap (verdict_of hart) (sym (stop_now segment memory hart cells steps come.reached) ∙ come.stops))
    ∙ advanced_by (ends_run hart stop) progress

-- whether a segment that has stopped ends the run
end_by : (ends : Bool) → is_end (if ends then EndsRun else Stops) ≡ ends
end_by true = refl
end_by false = refl

pub ends_by : (segment : Segment) (memory : Memory) (hart : HartState) (cells : Memory) (steps : ℕ) (stop : Stop) → HasCome segment memory hart cells steps (Some stop)
    → is_end (verdict_after segment.hart memory segment.left segment.quantum steps) ≡ ends_run hart stop
ends_by segment memory hart cells steps stop come =
    ap is_end (verdict_now segment memory hart cells steps come.reached ∙ ap (verdict_of hart) (sym (stop_now segment memory hart cells steps come.reached) ∙ come.stops))
    ∙ end_by (ends_run hart stop)

-- its end
pub is_segment : (segment : Segment) (memory : Memory) (hart : HartState) (cells : Memory) (steps : ℕ) (stop : Stop) → HasCome segment memory hart cells steps (Some stop)
    → of_hart.Segment segment.hart memory segment.left segment.quantum stop (counted stop steps) hart cells
is_segment segment memory hart cells steps stop come =
    record { steps = steps; reached = come.reached; running = come.running; stops = come.stops; count_is = refl }
