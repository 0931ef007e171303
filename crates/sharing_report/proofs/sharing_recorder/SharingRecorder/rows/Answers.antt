use Rattle.std.proofs.Common.{◌≡◌, ◌++◌, ◌∙◌, ℕ, List, ap, sym, subst}
use Rattle.std.specs.Map.Iter.{deref_pair}
use Rattle.std.proofs.lemmas.List.{append-nil}
use Rattle.std.proofs.lemmas.Map.Iter.{rest_all}
use Rattle.sharing_report.specs.Pages.{rows_of}
use Rattle.sharing_report.specs.Sharing.{IsSharing}
use Rattle.sharing_report.specs.declared.page_row.PageRow.{PageRow}
use Rattle.sharing_report.specs.declared.page_state.PageState.{PageState}
use Rattle.sharing_report.proofs.RowsKept.{rows_sharing}
use Rattle.sharing_report.proofs.sharing_recorder.SharingRecorder.rows.Goals as goal

pub returns : goal.returns
returns c changes has order =
    let pages = c.args.self.now.pages in
    let made : List PageRow = c.loop-page.rows.items in
    let done = rest_all deref_pair c.loop-page.page-iterator c.next.new.self c.next.result c.in-None.is c.next.ensures.steps in
    let rows : made ≡ rows_of pages.entries = sym (append-nil made) ∙ ap (λ (entries : List (ℕ × PageState)). made ++ rows_of entries) (sym done) ∙ c.loop-page.invariant in
    subst (IsSharing changes) (sym rows) (rows_sharing changes pages c.len.ensures.ordered (has.pages order))
