use Rattle.std.proofs.Common.{◌≡◌, ◌<◌, ◌+◌, List, ℕ, Option, Some, length, sym, subst, arith}
use Rattle.std.specs.Ordering.{nat_cmp}
use Rattle.std.specs.BTreeMap.{get}
use Rattle.sharing_report.specs.ByteChanges.{bytes_of_page}
use Rattle.sharing_report.specs.Pages.{IsKnown, Knows}
use Rattle.sharing_report.specs.declared.byte_change.ByteChange.{ByteChange}
use Rattle.sharing_report.specs.declared.page_state.PageState.{PageState}
use Rattle.sharing_report.proofs.Noting.{known_noted, length-of_page, upto_of_page}
use Rattle.sharing_report.proofs.page_states.note_page.Goals as goal

pub returns-in-Some-clause-known : goal.returns-in-Some-clause-known
returns-in-Some-clause-known c bytes known there upto few =
    let page : ℕ = c.args.page in
    let own : List ByteChange = bytes_of_page page bytes in
    let found : Some c.in-Some.state.now ≡ get nat_cmp c.args.pages.now page = rw c.in-Some.is at c.get_mut.ensures.value in
    let knew : Knows c.in-Some.state.now page own = subst (λ (one : Option PageState). IsKnown one page own) (sym found) (known page) in
    let short : length own + length c.args.addresses.now < 18446744073709551615 = omega (arith, length-of_page page bytes) in
    known_noted c.args.pages.now (c.get_mut.follows.lender c.note_all.new.self) page c.note_all.new.self (λ other. ((c.get_mut.follows.holds c.note_all.new.self).3 there).0 other)
    c.args.turn c.args.phase c.args.thread bytes c.args.addresses.now c.requires known
    (c.note_all.ensures page own knew (upto_of_page c.args.turn c.args.phase page bytes upto) c.requires short)
