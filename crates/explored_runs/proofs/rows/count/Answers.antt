use Rattle.std.proofs.Common.{◌≡◌, ◌≢◌, ◌∙◌, ◌<◌, List, slice_index_or, length, ap, subst, refl, arith, sym}
use Rattle.explored_runs.specs.Rows.{Counts}
use Rattle.explored_runs.specs.declared.row.Row.{Row}
use Rattle.explored_runs.proofs.Counting.{counts_at, counts_new}
use Rattle.explored_runs.proofs.rows.count.Goals as goal

pub returns-then-place-len : goal.returns-then-place-len
returns-then-place-len c =
    let rows : List Row = c.args.rows.now.items in
    let row : Row = c.index_mut-row.result.now in
    let within : c.place_of-place.result < length rows = omega arith in
    counts_at c.args.number c.args.ending c.args.line.items rows c.place_of-place.result row within
    (λ k d below. subst (λ (it : List Row). (slice_index_or it k d).ending ≢ c.args.ending) c.deref.ensures.value (c.place_of-place.ensures.before k d below))
    c.index_mut-row.ensures.value
    (ap (λ (it : Row). it.ending) c.index_mut-row.ensures.value
    ∙ subst (λ (it : List Row). (slice_index_or it c.place_of-place.result row).ending ≡ c.args.ending) c.deref.ensures.value (c.place_of-place.ensures.found row (rw c.deref.ensures.value within)))

pub returns : goal.returns
returns c =
    let rows : List Row = c.args.rows.now.items in
    let new : Row = record { ending = c.args.ending; line = c.args.line; runs = 1; first = c.args.number } in
    subst (Counts c.args.number c.args.ending c.args.line.items rows) (sym c.in_ok-push.ensures.items)
    (counts_new c.args.number c.args.ending c.args.line.items rows new
    (λ k d below. subst (λ (it : List Row). (slice_index_or it k d).ending ≢ c.args.ending) c.deref.ensures.value (c.place_of-place.ensures.before k d (omega arith)))
    (record { ending = refl; line = refl; runs = refl; first = refl }))
