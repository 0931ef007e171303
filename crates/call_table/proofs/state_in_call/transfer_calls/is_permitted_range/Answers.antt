use Rattle.std.proofs.Common.{sym, ◌∙◌, ◌+◌, ◌≡◌, ◌^◌, true, refl, arith}
use Rattle.std.specs.Prelude.{nat_le}
use Rattle.std.proofs.lemmas.Bool.Decides.{nat_tests}
use Rattle.paged_memory.specs.Snapshot.{cells_of, pages_of}
use Rattle.call_table.proofs.Ranges.{all_permitted-unmapped, all_permitted-by, all_permitted-end}
use Rattle.call_table.proofs.Runs.{permitted_page}
use Rattle.call_table.proofs.state_in_call.transfer_calls.is_permitted_range.Goals as goal

pub returns-in_default : goal.returns-in_default
returns-in_default g c =
    let within : nat_le (c.args.address + c.args.count) (2 ^ 32) ≡ true = grind (arith, nat_tests, c.from.ensures, c.from-2.ensures, c.if-from.false) in
    rw within
    (sym (all_permitted-unmapped g.permits (cells_of c.args.memory.now) c.args.address c.loop-done.done c.args.count c.loop-done-test.true (sym c.in_default.is ∙ c.perm.ensures))
    ∙ c.loop-done.invariant.permitted)

pub returns-then-not-may : goal.returns-then-not-may
returns-then-not-may g c =
    let within : nat_le (c.args.address + c.args.count) (2 ^ 32) ≡ true = grind (arith, nat_tests, c.from.ensures, c.from-2.ensures, c.if-from.false) in
    let told = c.requires.1.1 c.in-Some.perm c.may.result (record { shown = _; shows = refl; says = record { met = c.may.ensures } }) in
    let by = all_permitted-by g.permits (cells_of c.args.memory.now) c.args.address c.loop-done.done c.args.count c.in-Some.perm c.loop-done-test.true (sym c.in-Some.is ∙ c.perm.ensures) in
    rw within (sym (rw (← told, c.if-not-may.true) at by) ∙ c.loop-done.invariant.permitted)

pub loop-done-preserved : goal.loop-done-preserved
loop-done-preserved g c =
    let told = c.requires.1.1 c.in-Some.perm c.may.result (record { shown = _; shows = refl; says = record { met = c.may.ensures } }) in
    let ran = c.run_length-done.ensures in
    let by = permitted_page g.permits (pages_of c.args.memory.now) c.args.address c.loop-done.done c.run_length-done.result c.args.count c.in-Some.perm ran.some (omega (arith, ran.within)) ran.inside (sym c.in-Some.is ∙ c.perm.ensures) in
    let step = rw (← told, c.if-not-may.false) at by in
    record { within = omega (arith, ran.within); permitted = sym step ∙ c.loop-done.invariant.permitted }

pub returns : goal.returns
returns g c =
    let within : nat_le (c.args.address + c.args.count) (2 ^ 32) ≡ true = grind (arith, nat_tests, c.from.ensures, c.from-2.ensures, c.if-from.false) in
    rw within
    (sym (all_permitted-end g.permits (cells_of c.args.memory.now) (c.args.address + c.loop-done.done) c.loop-done.done c.args.count c.loop-done-test.false) ∙ c.loop-done.invariant.permitted)
