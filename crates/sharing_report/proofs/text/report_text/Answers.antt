use Rattle.std.proofs.Common.{◌≡◌, ◌∙◌, ap, take, arith, List}
use Rattle.std.specs.List.{flat_map}
use Rattle.std.proofs.lemmas.List.{take_all}
use Rattle.sharing_report.specs.Texts.{row_text, text_of}
use Rattle.sharing_report.specs.declared.page_row.PageRow.{PageRow}
use Rattle.sharing_report.proofs.text.report_text.Goals as goal

pub returns : goal.returns
unfolding text_of
returns c =
    let rows : List PageRow = c.args.rows.now in
    let whole : take c.loop-row.row-index rows ≡ rows = take_all c.loop-row.row-index rows (omega arith) in
    c.loop-row.invariant ∙ ap (flat_map row_text) whole
