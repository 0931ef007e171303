use Rattle.std.proofs.Common.{◌≡◌, ◌++◌, ◌∙◌, ℕ, List, ap}
use Rattle.std.specs.String.{string_bytes}
use Rattle.explored_text.specs.Tables.{table_text}
use Rattle.command_line.proofs.exploring.explored.Goals as goal

-- the text of the rows, and of those that failed
pub returns-clause-explored : goal.returns-clause-explored
returns-clause-explored g c =
    let shown = c.in_ok-push_failures.ensures.shown in
    let table : string_bytes c.push_table.new.text ≡ table_text c.args.exploration.now.range.count c.in_ok-rows.rows.items =
    rw (c.as_slice.ensures.value, c.new-text.ensures.bytes) at c.in_ok-push_table.ensures in record {
      rows = c.in_ok-rows.rows;
      are_rows = c.in_ok-rows.ensures;
      failures = shown.0;
      are_failures = rw c.as_slice-2.ensures.value at shown.1;
      text_is = shown.2 ∙ ap (λ (text : List ℕ). text ++ shown.0) table;
      failed_is = rw c.as_slice-3.ensures.value at c.failed-failed.ensures;
    }
