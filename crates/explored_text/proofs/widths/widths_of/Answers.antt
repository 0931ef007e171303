use Rattle.std.proofs.Common.{◌≡◌, ◌∙◌, List, ap, take, arith}
use Rattle.std.specs.Prelude.{fold}
use Rattle.std.proofs.lemmas.List.{take_all}
use Rattle.explored_runs.specs.declared.row.Row.{Row}
use Rattle.explored_text.specs.Tables.{narrowest, widened, widths_of}
use Rattle.explored_text.proofs.widths.widths_of.Goals as goal

pub returns : goal.returns
unfolding widths_of
returns c =
    let rows : List Row = c.args.rows.now in
    let whole : take c.loop-row.row-index rows ≡ rows = take_all c.loop-row.row-index rows (omega arith) in
    c.loop-row.invariant ∙ ap (fold widened narrowest) whole
