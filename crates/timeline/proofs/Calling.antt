-- The positions at which no watch event of a call comes next.
use Rattle.std.proofs.Common.{◌≡◌, ◌≢◌, ◌∙◌, ℕ, ◌<◌, ◌≤◌, Bool, true, false, if◌then◌else◌, Option, Some, None, List, [], ◌∷◌, refl, ap, arith, inl, inr}
use Rattle.std.proofs.lemmas.Bool.{cases_eq}
use Rattle.std.proofs.lemmas.Bool.Decides.{nat_tests}
use Rattle.std.specs.Prelude.{◌==◌, ◌&&◌, nat_lt, option_and_then, option_map}
use Rattle.guest_memory.specs.Memory.{Memory, fetched}
use Rattle.decoder.specs.Decoding.{decoded}
use Rattle.decoder.specs.declared.instr.Instr.{Instr}
use Rattle.decoder.specs.declared.instr.Instr.TheVariants.{Ecall as Call}
use Rattle.hart.specs.Accesses.{access_of}
use Rattle.hart.specs.HartState.{HartState}
use Rattle.hart.specs.Next.{Calls, decoded_word, executed, fetched_word, next}
use Rattle.hart.specs.Segment.{is_used_up, stop_after, stop_at}
use Rattle.hart.specs.declared.stop.Stop.{Stop}
use Rattle.hart.specs.declared.stop.Stop.TheVariants.{Ecall, Quantum}
use Rattle.marked_memory.specs.declared.watch.Watch.{Watch}
use Rattle.token.specs.Point.{Point}
use Rattle.timeline.specs.Calls.{call_at, call_by}
use Rattle.timeline.specs.Halts.{Wanted, access_event, calls_next, first_from, is_call, next_access, next_instr}
use Rattle.timeline.specs.Moment.{Moment, Origin, state_in, stop_in, origin_at}
use Rattle.timeline.specs.Quiet.{IsQuiet}
use Rattle.timeline.specs.Shown.{Executing, own_at, own_by}
use Rattle.timeline.specs.declared.halt.Halt.{Halt}

none_of : (test : Bool) (told : Option Halt) → told ≡ None → (if test then told else None) ≡ None
none_of true told none = none
none_of false told none = refl

nothing_by : (moment : Moment) (origin : Option Origin) (own : Option Executing) → call_by [] moment origin own ≡ None
unfolding first_from
nothing_by moment None own = refl
nothing_by moment (Some origin) None = refl
nothing_by moment (Some origin) (Some own) = none_of (calls_next origin.work.segment.left moment.steps own.hart own.memory) None refl

-- where nothing is watched
pub call_nothing : (moment : Moment) → call_at [] moment ≡ None
unfolding call_at
call_nothing moment = nothing_by moment (origin_at moment.point) (own_at moment)

-- in a turn without a segment
pub call_without : (watches : List Watch) (point : Point) (steps : ℕ) → origin_at point ≡ None → call_at watches (record { point = point; steps = steps }) ≡ None
unfolding call_at
call_without watches point steps none = ap (λ (origin : Option Origin). call_by watches (record { point = point; steps = steps }) origin (own_at (record { point = point; steps = steps }))) none

quiet_by : (watches : List Watch) (moment : Moment) (origin : Origin) (state : Option (HartState × Memory))
    → ((hart : HartState) (memory : Memory) → state ≡ Some (hart, memory) → calls_next origin.work.segment.left moment.steps hart memory ≡ false)
    → call_by watches moment (Some origin) (option_map (λ state. record { thread = origin.work.thread; hart = state.0; memory = state.1 }) state) ≡ None
quiet_by watches moment origin None each = refl
quiet_by watches moment origin (Some state) each = rw (each state.0 state.1 refl) refl

-- where no call comes next
pub call_quiet : (watches : List Watch) (point : Point) (origin : Origin) (steps : ℕ) → origin_at point ≡ Some origin
    → ((hart : HartState) (memory : Memory) → state_in origin steps ≡ Some (hart, memory) → calls_next origin.work.segment.left steps hart memory ≡ false)
    → call_at watches (record { point = point; steps = steps }) ≡ None
unfolding call_at own_at
call_quiet watches point origin steps is each =
    let moment : Moment = record { point = point; steps = steps } in
    ap (λ (origin : Option Origin). call_by watches moment origin (own_by origin steps)) is ∙ quiet_by watches moment origin (state_in origin steps) each

watched_by : (watches : List Watch) (point : Point) (origin : Origin) (k : ℕ) → origin_at point ≡ Some origin
    → ((hart : HartState) (memory : Memory) → state_in origin k ≡ Some (hart, memory) → watches ≢ [] → calls_next origin.work.segment.left k hart memory ≡ false)
    → call_at watches (record { point = point; steps = k }) ≡ None
watched_by [] point origin k is each = call_nothing (record { point = point; steps = k })
watched_by (watch ∷ watches) point origin k is each = call_quiet (watch ∷ watches) point origin k is (λ hart memory there. each hart memory there (λ none. cc))

-- at the positions that are passed, but for the first
pub call_passed : (wanted : Wanted) (point : Point) (origin : Origin) (from to k : ℕ) → IsQuiet wanted origin from to → origin_at point ≡ Some origin → from ≤ k → k < to
    → call_at wanted.watches (record { point = point; steps = from }) ≡ None → call_at wanted.watches (record { point = point; steps = k }) ≡ None
call_passed wanted point origin from to k quiet is low high first =
    elim (cases_eq k from) [
      | inl same ↦ rw same first
      | inr other ↦ watched_by wanted.watches point origin k is (λ hart memory there watched. quiet.calls k hart memory (omega arith) high there watched)
    ]

-- a call stops its segment

decoded_calls : (hart : HartState) (memory : Memory) (word : ℕ) (instr : Option Instr) → is_call instr ≡ true → decoded_word hart memory word instr ≡ Calls
unfolding executed
decoded_calls hart memory word None is = absurd (cc)
decoded_calls hart memory word (Some Call) is = refl
decoded_calls hart memory word (Some _) is = absurd (cc)

fetched_calls : (hart : HartState) (memory : Memory) (word : Option ℕ) → is_call (option_and_then decoded word) ≡ true → fetched_word hart memory word ≡ Calls
fetched_calls hart memory None is = absurd (cc)
fetched_calls hart memory (Some word) is = decoded_calls hart memory word (decoded word) is

calls : (hart : HartState) (memory : Memory) → is_call (next_instr hart memory) ≡ true → next hart memory ≡ Calls
unfolding next
calls hart memory is = fetched_calls hart memory (fetched memory hart.pc) is

both_true : (one other : Bool) → (one && other) ≡ true → (one ≡ true) × (other ≡ true)
both_true true other is = (refl, is)
both_true false other is = absurd (cc)

stops_by : (left k : ℕ) (quantum : Option ℕ) (stop : Option Stop) → (k == left) ≡ false → stop ≡ stop_at left quantum k Calls → (stop ≡ Some Quantum → ⊥) → (stop ≡ Some Ecall → ⊥) → ⊥
unfolding stop_at
stops_by left k quantum stop below is no_quantum no_call = by (is_used_up quantum k) (rw below at is)
  where
    by : (used : Bool) → stop ≡ (if used then Some Quantum else Some Ecall) → ⊥
    by true is = no_quantum is
    by false is = no_call is

-- where a segment doesn't stop at a call or its quantum, no call comes next
pub no_call : (origin : Origin) (k : ℕ) (hart : HartState) (memory : Memory) → state_in origin k ≡ Some (hart, memory) → (stop_in origin k ≡ Some Quantum → ⊥) → (stop_in origin k ≡ Some Ecall → ⊥)
    → calls_next origin.work.segment.left k hart memory ≡ false
unfolding stop_after
no_call origin k hart memory there no_quantum no_ecall = by (calls_next origin.work.segment.left k hart memory) refl
  where
    left : ℕ
    left = origin.work.segment.left

    by : (found : Bool) → calls_next left k hart memory ≡ found → calls_next left k hart memory ≡ false
    by false is = is
    by true is =
        let both = both_true (nat_lt k left) (is_call (next_instr hart memory)) is in
        let other : (k == left) ≡ false = grind (arith, nat_tests, both.0) in
        let stop : stop_in origin k ≡ stop_at left origin.work.segment.quantum k Calls =
        ap (option_and_then (λ (state : HartState × Memory). stop_at left origin.work.segment.quantum k (next state.0 state.1))) there
        ∙ ap (stop_at left origin.work.segment.quantum k) (calls hart memory both.1) in
        absurd (stops_by left k origin.work.segment.quantum (stop_in origin k) other stop no_quantum no_ecall)

pub and_false : (one other : Bool) → other ≡ false → (one && other) ≡ false
and_false true other is = is
and_false false other is = refl

no_access : (watches : List Watch) (hart : HartState) (instr : Option Instr) (halt : Halt) → access_event watches (option_and_then (access_of hart) instr) ≡ Some halt → is_call instr ≡ false
unfolding access_of
no_access watches hart None halt is = refl
no_access watches hart (Some Call) halt is = absurd (cc)
no_access watches hart (Some _) halt is = refl

-- an instruction that loads or stores is no call
pub event_no_call : (watches : List Watch) (left k : ℕ) (hart : HartState) (memory : Memory) (halt : Halt) → access_event watches (next_access hart memory) ≡ Some halt
    → calls_next left k hart memory ≡ false
event_no_call watches left k hart memory halt is = and_false (nat_lt k left) (is_call (next_instr hart memory)) (no_access watches hart (next_instr hart memory) halt is)
