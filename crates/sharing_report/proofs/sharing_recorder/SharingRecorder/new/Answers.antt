use Rattle.std.proofs.Common.{List, refl, sym, subst, [], ℕ}
use Rattle.std.specs.Ordering.{nat_cmp}
use Rattle.std.specs.BTreeMap.{is_at}
use Rattle.std.specs.Map.{lookup}
use Rattle.sharing_report.specs.ByteChanges.{bytes_of, bytes_of_page}
use Rattle.sharing_report.specs.Pages.{IsKnown}
use Rattle.sharing_report.specs.declared.page_state.PageState.{PageState}
use Rattle.sharing_report.proofs.sharing_recorder.SharingRecorder.new.Goals as goal

pub returns : goal.returns
unfolding bytes_of bytes_of_page
returns c = record {
  turns = refl;
  counted = refl;
  pages = λ order page. subst (λ (entries : List (ℕ × PageState)). IsKnown (lookup (is_at (nat_cmp page)) entries) page []) (sym c.new.ensures.empty) refl;
}
