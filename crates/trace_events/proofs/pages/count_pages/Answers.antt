use Rattle.std.proofs.Common.{◌≡◌, List, ℕ, [], arith, drop, get_or, refl}
use Rattle.std.proofs.lemmas.List.{drop_all}
use Rattle.trace_events.specs.Pages.{pages_after}
use Rattle.trace_events.proofs.Rows.{pages_more}
use Rattle.trace_events.proofs.pages.count_pages.Goals as goal

pub loop-address-preserved : goal.loop-address-preserved
loop-address-preserved c =
    let addresses : List ℕ = c.args.addresses.now in
    let at : ℕ = c.loop-address.address-index in
    let more = pages_more c.loop-address.last addresses at (get_or addresses at 0) c.loop-address-test.true refl in
    record { counted = omega (arith, more); within = omega arith }

pub returns : goal.returns
unfolding pages_after
returns c =
    let none : drop c.loop-address.address-index c.args.addresses.now ≡ [] = drop_all c.loop-address.address-index c.args.addresses.now c.loop-address-test.false in
    let counted = rw none at c.loop-address.invariant.counted in
    omega (arith, counted)
