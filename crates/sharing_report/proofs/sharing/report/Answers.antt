use Rattle.std.proofs.Common.{◌≡◌, ◌∙◌, ap, sym, map, subst, take, arith, List, ℕ}
use Rattle.std.specs.List.{Contains}
use Rattle.std.specs.Prelude.{◌↔◌}
use Rattle.std.proofs.lemmas.List.{take_all}
use Rattle.sharing_report.specs.Sharing.{IsSharing, row_of}
use Rattle.sharing_report.specs.declared.byte_change.ByteChange.{ByteChange}
use Rattle.sharing_report.specs.declared.page_row.PageRow.{PageRow}
use Rattle.sharing_report.proofs.Rows.{sharing-rows}
use Rattle.sharing_report.proofs.sharing.report.Goals as goal

pub returns : goal.returns
returns c =
    let changes = c.args.changes.now in
    let pages : List ℕ = c.deref-page-items.result.now in
    let whole : take c.loop-page.page-index pages ≡ pages = take_all c.loop-page.page-index pages (omega arith) in
    let made = c.loop-page.invariant ∙ ap (map (row_of changes)) (whole ∙ c.deref-page-items.ensures.value) in
    let exact = subst (λ (all : List ByteChange). (page : ℕ) → Contains c.in_ok-pages.pages.items page ↔ Contains (map (λ (byte : ByteChange). byte.page) all) page) c.deref.ensures.value c.in_ok-pages.ensures.exact in
    subst (λ (rows : List PageRow). IsSharing changes rows) (sym made) (sharing-rows changes c.in_ok-bytes.bytes.items c.in_ok-pages.pages.items c.in_ok-bytes.ensures.permutation c.in_ok-pages.ensures.ascending exact)
