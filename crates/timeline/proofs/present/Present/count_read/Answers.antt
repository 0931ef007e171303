use Rattle.std.proofs.Common.{◌≡◌, ◌∙◌, ◌+◌, Bool, true, Option, Some, None, [], refl, sym, ap, arith}
use Rattle.std.specs.Prelude.{is_some, option_and_then}
use Rattle.timeline.specs.Calls as calls
use Rattle.timeline.specs.Halts.{Wanted, wanted_by}
use Rattle.timeline.specs.Moment.{Moment}
use Rattle.timeline.specs.Present.{moment_of, step_of}
use Rattle.timeline.specs.Shown.{row_at}
use Rattle.timeline.specs.declared.halt.Halt.{Halt}
use Rattle.timeline.proofs.Backing.{next_of, none_next}
use Rattle.timeline.proofs.Calling.{call_nothing}
use Rattle.timeline.proofs.present.Present.count_read.Goals as goal

halt_of : (found : Option Halt) → is_some found ≡ true → (halt : Halt) × (found ≡ Some halt)
halt_of None is = absurd (cc)
halt_of (Some halt) is = (halt, refl)

none_of : (found : Option Halt) → is_some found ≡ Bool.false → found ≡ None
none_of None is = refl
none_of (Some halt) is = absurd (cc)

pub proceed-requires-clause-call : goal.proceed-requires-clause-call
proceed-requires-clause-call c =
    let none : c.none.result.watches.now ≡ [] = ap (λ (wanted : Wanted). wanted.watches) c.none.ensures in
    rw none (call_nothing (moment_of c.in_ok-after.after))

pub returns-then-is_some : goal.returns-then-is_some
returns-then-is_some c =
    let found = halt_of c.in_ok-proceed.field-0 (sym c.is_some.ensures ∙ c.if-is_some.true) in
    let copy = c.in_ok-after.after in
    let is = c.in_ok-after.ensures in
    let more : c.steps.result + 1 ≡ step_of copy + 1 = omega (arith, c.steps.ensures, is.steps, is.before) in
    let step = rw (found.1, more) at c.in_ok-proceed.ensures.proceeds.step in
    let walk = rw found.1 at c.in_ok-proceed.ensures.walked in
    let none =
    none_next c.args.self.now copy c.proceed.new.self found.0 (wanted_by c.none.result) is.point is.steps is.before is.sound c.proceed.ensures.proceeds.stays c.none.ensures
    step walk in
    let row : calls.row_after (moment_of c.args.self.now) c.args.thread ≡ None = ap (option_and_then (λ (next : Moment). row_at next.point c.args.thread)) none in
    rw row refl

pub returns : goal.returns
returns c =
    let found = none_of c.in_ok-proceed.field-0 (sym c.is_some.ensures ∙ c.if-is_some.false) in
    let copy = c.in_ok-after.after in
    let is = c.in_ok-after.ensures in
    let step = rw found at c.in_ok-proceed.ensures.proceeds.step in
    let next : step_of c.proceed.new.self ≡ step_of copy + 1 = omega (arith, step.0, step.1, c.steps.ensures, is.steps, is.before) in
    let leads = next_of c.args.self.now copy c.proceed.new.self is.point is.steps is.before is.sound c.proceed.ensures.proceeds.stays next in
    let row = ap (option_and_then (λ (next : Moment). row_at next.point c.args.thread)) leads in
    c.count_in.ensures ∙ ap calls.count_in (c.row.ensures ∙ sym row)
