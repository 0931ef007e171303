use Rattle.std.proofs.Common.{◌≡◌, ◌++◌, ◌∙◌, List, ap, take, arith}
use Rattle.std.specs.List.{flat_map}
use Rattle.std.specs.String.{string_bytes}
use Rattle.std.proofs.lemmas.List.{take_all}
use Rattle.explored_runs.specs.declared.row.Row.{Row}
use Rattle.explored_text.specs.Tables.{row_text, rows_text}
use Rattle.explored_text.proofs.table.push_rows.Goals as goal

pub returns : goal.returns
unfolding rows_text
returns c =
    let rows : List Row = c.args.rows.now in
    let whole : take c.loop-row.row-index rows ≡ rows = take_all c.loop-row.row-index rows (omega arith) in
    c.loop-row.invariant ∙ ap (λ (all : List Row). string_bytes c.args.text.now ++ flat_map (row_text c.args.widths) all) whole
