use Rattle.std.specs.Prelude.{ℕ, List, ◌++◌, codes, decimal}
use Rattle.std.specs.List.{flat_map}
use Rattle.text_output.specs.Digits.{hexadecimal}
use Rattle.sharing_report.specs.declared.page_row.PageRow.{PageRow}

-- the line of a row
unfoldable pub row_text : PageRow → List ℕ
row_text row =
    codes "page=" ++ hexadecimal 8 row.page ++ codes " turns=" ++ decimal row.turns ++ codes " bytes=" ++ decimal row.bytes ++ codes " threads=" ++ decimal row.threads ++ codes " shared=" ++ decimal row.shared ++ codes " clashes=" ++ decimal row.clashes ++ codes "\n"

-- the text of a report
unfoldable pub text_of : List PageRow → List ℕ
text_of rows = flat_map row_text rows
