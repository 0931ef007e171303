-- A segment has one end.
use Rattle.std.proofs.Common.{◌≡◌, ◌≢◌, suc, zero, ◌+◌, Bool, None, ◌==◌, if◌then◌else◌, option_and_then, below_more, false, true, refl, arith, add-one, ◌<◌, ℕ, Option, Some, ap, inl, inr, sym, ◌∙◌}
use Rattle.std.proofs.lemmas.Bool.{cases_order, eqb-false}
use Rattle.guest_memory.specs.Memory.{Memory}
use Rattle.hart.specs.HartState.{HartState}
use Rattle.hart.specs.Next.{Next, Goes, Calls, Traps, next}
use Rattle.hart.specs.declared.stop.Stop.TheVariants.{Trap as Trapped, Quantum}
use Rattle.hart.specs.declared.stop.Stop.{Stop}
use Rattle.hart.specs.Segment.{Segment, after, bound_trap, counted, is_used_up, left_by, stop_after, stop_at, stop_of}
use Rattle.hart.proofs.Segments.{begun, ends, stop_here}
use Rattle.hart.specs.Slice.{Runs}
use Rattle.token.specs.Turns.{Ran}

-- a segment that ends with this
abbrev pub IsRan : HartState → Memory → ℕ → Option ℕ → Ran → Type 0
IsRan hart memory left quantum ran = Segment hart memory left quantum ran.stop ran.count ran.hart ran.memory

-- where a segment ends
abbrev last_of : Ran → HartState × Memory
last_of ran = (ran.hart, ran.memory)

same_parts : (one other : Ran) → one.hart ≡ other.hart → one.memory ≡ other.memory → one.stop ≡ other.stop → one.count ≡ other.count → one ≡ other
same_parts one other hart memory stop count = λ i. record { hart = hart i; memory = memory i; stop = stop i; count = count i }

-- a segment doesn't go on after the end of another
not_shorter : (hart : HartState) (memory : Memory) (left : ℕ) (quantum : Option ℕ) (one other : Ran) (ends : IsRan hart memory left quantum one)
    → (goes : IsRan hart memory left quantum other) → ends.steps < goes.steps → ⊥
not_shorter hart memory left quantum one other ends goes shorter =
    let none = goes.running ends.steps shorter in
    let some = ends.stops in
    cc

-- two segments with as many steps
same_at : (hart : HartState) (memory : Memory) (left : ℕ) (quantum : Option ℕ) (one other : Ran) (first : IsRan hart memory left quantum one)
    → (second : IsRan hart memory left quantum other) → first.steps ≡ second.steps → one ≡ other
same_at hart memory left quantum one other first second same =
    let reached : Some (last_of one) ≡ Some (last_of other) =
    sym first.reached ∙ ap (λ steps. after steps hart memory) same ∙ second.reached in
    let stops : Some one.stop ≡ Some other.stop = sym first.stops ∙ ap (λ steps. stop_after hart memory left quantum steps) same ∙ second.stops in
    let last : last_of one ≡ last_of other = cc reached in
    let stop : one.stop ≡ other.stop = cc stops in
    let count : one.count ≡ other.count = first.count_is ∙ ap (λ stop. counted stop first.steps) stop ∙ ap (counted other.stop) same ∙ sym second.count_is in
    same_parts one other (ap (λ last. last.0) last) (ap (λ last. last.1) last) stop count

pub one_end : (hart : HartState) (memory : Memory) (left : ℕ) (quantum : Option ℕ) (one other : Ran) → IsRan hart memory left quantum one
    → IsRan hart memory left quantum other → one ≡ other
one_end hart memory left quantum one other first second =
    elim (cases_order first.steps second.steps) [
      | inl same ↦ same_at hart memory left quantum one other first second same
      | inr (inl shorter) ↦ absurd (not_shorter hart memory left quantum one other first second shorter)
      | inr (inr longer) ↦ absurd (not_shorter hart memory left quantum other one second first longer)
    ]

-- some end of a segment
abbrev pub Ended : HartState → Memory → ℕ → Option ℕ → Type 0
Ended hart memory left quantum = (ran : Ran) × IsRan hart memory left quantum ran

-- where a segment doesn't stop, the bound isn't reached and the instruction goes on
goes_of : (at_bound used : Bool) (what : Next) → (if at_bound then Some (Trapped bound_trap) else (if used then Some Quantum else stop_of what)) ≡ None
    → (hart : HartState) × (memory : Memory) × (what ≡ Goes hart memory) × (at_bound ≡ false)
goes_of true used what is = cc
goes_of false true what is = cc
goes_of false false (Goes hart memory) is = (hart, memory, refl, refl)
goes_of false false Calls is = cc
goes_of false false (Traps trap) is = cc

-- a segment that has run so far ends, if it ends wherever it goes on to
ends_here : (hart : HartState) (memory : Memory) (left : ℕ) (quantum : Option ℕ) (count : ℕ) (last_hart : HartState) (last_memory : Memory)
    → Runs hart memory left quantum count last_hart last_memory
    → ((next_hart : HartState) (next_memory : Memory) → count ≢ left → Runs hart memory left quantum (count + 1) next_hart next_memory → Ended hart memory left quantum)
    → Ended hart memory left quantum
unfolding after stop_at
ends_here hart memory left quantum count last_hart last_memory runs further =
    by_stop (stop_at left quantum count (next last_hart last_memory)) refl
  where
    by_stop : (stop : Option Stop) → stop_at left quantum count (next last_hart last_memory) ≡ stop → Ended hart memory left quantum
    by_stop (Some stop) is =
        (record { hart = last_hart; memory = last_memory; stop = stop; count = counted stop count }, ends hart memory left quantum count last_hart last_memory stop runs is)
    by_stop None is =
        let goes = goes_of (count == left) (is_used_up quantum count) (next last_hart last_memory) is in
        let here = stop_here hart memory left quantum count last_hart last_memory runs.reached ∙ is in
        further goes.0 goes.1 (eqb-false count left goes.3)
        (record {
          reached = rw add-one (ap (option_and_then (λ state. left_by (next state.0 state.1))) runs.reached ∙ ap left_by goes.2);
          running = below_more (λ k. stop_after hart memory left quantum k ≡ None) count runs.running here;
        })

ends_within : (hart : HartState) (memory : Memory) (left : ℕ) (quantum : Option ℕ) (more count : ℕ) (last_hart : HartState) (last_memory : Memory)
    → more + count ≡ left → Runs hart memory left quantum count last_hart last_memory → Ended hart memory left quantum
ends_within hart memory left quantum zero count last_hart last_memory within runs =
    ends_here hart memory left quantum count last_hart last_memory runs (λ next_hart next_memory below going. absurd (below (omega arith)))
ends_within hart memory left quantum (suc more) count last_hart last_memory within runs =
    ends_here hart memory left quantum count last_hart last_memory runs
    (λ next_hart next_memory below going. ends_within hart memory left quantum more (count + 1) next_hart next_memory (omega arith) going)

-- a segment ends, at the bound at the latest
pub some_end : (hart : HartState) (memory : Memory) (left : ℕ) (quantum : Option ℕ) → Ended hart memory left quantum
some_end hart memory left quantum = ends_within hart memory left quantum left 0 hart memory (omega arith) (begun hart memory left quantum)
