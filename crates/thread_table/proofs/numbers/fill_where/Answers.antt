use Rattle.std.proofs.Common.{◌∙◌, length, take, refl, sym, ap, arith, lit<}
use Rattle.std.proofs.lemmas.List.{length-take-le, take_all}
use Rattle.thread_table.proofs.Lists.{AreNumbersOf-numbers_where, numbers_where-none, numbers_where-more_picked, numbers_where-more_left, length-numbers_where}
use Rattle.thread_table.proofs.numbers.fill_where.Goals as goal
use Rattle.thread_table.proofs.numbers.fill_where.Goals.{then-test, else-test}

pub loop-number-init : goal.loop-number-init
loop-number-init g c = c.clear.ensures ∙ sym (numbers_where-none g.holds)

pub push-requires : goal.push-requires
push-requires g c =
    let i = c.loop-number.number in
    let prefix = length-take-le i c.args.threads.now (omega arith) in
    let fewer = length-numbers_where g.holds (take i c.args.threads.now) in
    let same = ap length c.loop-number.invariant in
    (lit< tt, omega (arith, prefix, fewer, same))

pub loop-number-preserved : goal.loop-number-preserved
loop-number-preserved g c =
    let read = c.index-threads-number.is in
    let told = c.requires.1.1.1 c.index-threads-number.result c.test.result (record { shown = _; shows = refl; says = record { met = c.test.ensures } }) in
    elim c.if-test.branch [
      | then-test w ↦
          ap (λ v. v.items) w.numbers-is ∙ w.push.ensures.items
          ∙ numbers_where-more_picked _ _ _ _ _ (omega arith) read (sym told ∙ w.if-test.true) c.loop-number.invariant
      | else-test w ↦
          ap (λ v. v.items) w.numbers-is
          ∙ numbers_where-more_left _ _ _ _ _ (omega arith) read (sym told ∙ w.if-test.false) c.loop-number.invariant
    ]

pub returns-clause-numbers : goal.returns-clause-numbers
returns-clause-numbers g c =
    let whole = take_all c.loop-number.number c.args.threads.now (omega arith) in
    rw (c.loop-number.invariant, whole) (AreNumbersOf-numbers_where g.holds c.args.threads.now)
