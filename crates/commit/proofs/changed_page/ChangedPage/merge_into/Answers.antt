use Rattle.std.proofs.Common.{◌≡◌, Result, Ok, Err, Some, ℕ, ◌+◌, ◌≤◌, List, length, refl, sym, ◌∙◌, ap, ap₂, arith}
use Rattle.std.specs.Prelude.{OnOk}
use Rattle.std.specs.Arc.{arc_value}
use Rattle.paged_memory.specs.Page.{PageValue}
use Rattle.paged_memory.specs.Bytes.{with_part}
use Rattle.paged_memory.specs.PageMap.{PageMap, memory_of_pages, with_page, with_part_in}
use Rattle.commit.specs.Bytes.{merged_bytes}
use Rattle.commit.specs.Mine.{bytes_left}
use Rattle.commit.specs.Patched.{PageChange}
use Rattle.paged_memory.specs.Snapshot.{pages_of}
use Rattle.commit.proofs.Merges.{memory-merged, memory-dropped}
use Rattle.commit.proofs.Parts.{merged-part, length-part, with_page-mapped}
use Rattle.commit.proofs.changed_page.ChangedPage.merge_into.Goals as goal

on-ok : {A E : Type 0} (answer : Result A E) {P Q : Type 0} → (P → Q) → OnOk answer P → OnOk answer Q
on-ok (Ok done) then held = then held
on-ok (Err error) then held = tt

pub returns-in_default-clause-merged : goal.returns-in_default-clause-merged
returns-in_default-clause-merged c = rw (← c.self.view_is) (sym (memory-dropped (pages_of c.args.snapshot.now) _ (sym c.in_default.ensures)))

pub returns-in_ok-merged-in-Page-clause-merged : goal.returns-in_ok-merged-in-Page-clause-merged
unfolding bytes_left
returns-in_ok-merged-in-Page-clause-merged c =
    let page : PageValue = arc_value c.in-Some.page.now in
    let change : PageChange = c.args.self.now in
    let pages : PageMap = pages_of c.args.snapshot.now in
    let number : c.self.inside.number ≡ change.number = ap (λ (it : PageChange). it.number) c.self.view_is in
    let copy : (arc_value c.self.inside.copy).bytes ≡ change.copy = ap (λ (it : PageChange). it.copy) c.self.view_is in
    let mine : (arc_value c.in-Page.mine).bytes ≡ change.mine = rw (← c.self.view_is, c.in-Page.is) refl in
    let here : c.deref-in-Page.result.now ≡ page = c.deref-in-Page.ensures in
    let there : c.deref-in-Page-2.result.now ≡ arc_value c.self.inside.copy = c.deref-in-Page-2.ensures in
    let value : arc_value c.in_ok-merged-in-Page.merged ≡ record { perm = page.perm; bytes = merged_bytes page.bytes change.copy change.mine } =
    rw (c.in_ok-merged-in-Page.ensures.merged, here, there, copy, mine) refl in
    let found : pages change.number ≡ Some page = ap pages (sym number) ∙ sym c.in-Some.ensures in
    let size : length page.bytes ≡ 4096 = rw (← here) c.in_ok-merged-in-Page.ensures.whole.now in
    let size' : length change.copy ≡ 4096 = rw (← copy, ← there) c.in_ok-merged-in-Page.ensures.whole.copy in
    let size'' : length change.mine ≡ 4096 = rw (← mine) c.in_ok-merged-in-Page.ensures.whole.mine in
    on-ok c.replace.result (λ replaced.
    ap memory_of_pages (replaced ∙ ap₂ (λ (n : ℕ) (it : PageValue). with_page n (λ _. Some it) pages) number value)
    ∙ memory-merged pages change page found size size' size'')
    c.replace.ensures.replaced

pub returns-in-Group-clause-merged : goal.returns-in-Group-clause-merged
unfolding bytes_left
returns-in-Group-clause-merged c =
    let page : PageValue = arc_value c.in-Some.page.now in
    let change : PageChange = c.args.self.now in
    let pages : PageMap = pages_of c.args.snapshot.now in
    let at : ℕ = c.in-Group.group.at in
    let number : c.self.inside.number ≡ change.number = ap (λ (it : PageChange). it.number) c.self.view_is in
    let copy : (arc_value c.self.inside.copy).bytes ≡ change.copy = ap (λ (it : PageChange). it.copy) c.self.view_is in
    let mine : with_part at c.in-Group.group.bytes change.copy ≡ change.mine = rw (← c.self.view_is, c.in-Group.is) refl in
    let here : c.bytes.result.now ≡ page.bytes = c.bytes.ensures.bytes ∙ ap (λ (it : PageValue). it.bytes) c.deref.ensures in
    let there : c.bytes-in-Group.result.now ≡ change.copy = c.bytes-in-Group.ensures.bytes ∙ ap (λ (it : PageValue). it.bytes) c.deref-in-Group.ensures ∙ copy in
    let size : length page.bytes ≡ 4096 = rw (← c.deref.ensures) c.bytes.ensures.size in
    let size' : length change.copy ≡ 4096 = rw (← copy, ← c.deref-in-Group.ensures) c.bytes-in-Group.ensures.size in
    let long : length c.in-Group.group.bytes ≡ 128 = c.in-Group.group.full in
    let within : at + 128 ≤ length change.copy = omega (arith, c.in-Group.group.inside, size') in
    let size'' : length change.mine ≡ 4096 = ap length (sym mine) ∙ length-part change.copy at 128 within c.in-Group.group.bytes long ∙ size' in
    let found : pages change.number ≡ Some page = ap pages (sym number) ∙ sym c.in-Some.ensures in
    let part : with_part at c.merged-merged.result page.bytes ≡ merged_bytes page.bytes change.copy change.mine =
    rw (c.merged-merged.ensures, here, there) (merged-part change.copy at 128 within c.in-Group.group.bytes long page.bytes (size' ∙ sym size) ∙ ap (merged_bytes page.bytes change.copy) mine) in
    on-ok c.write_part.result (λ written.
    ap memory_of_pages (rw (c.at.ensures.at, number) at written
    ∙ with_page-mapped pages change.number page (with_part_in at c.merged-merged.result) found
    ∙ ap (λ (bytes : List ℕ). with_page change.number (λ _. Some (record { perm = page.perm; bytes = bytes })) pages) part)
    ∙ memory-merged pages change page found size size' size'')
    c.write_part.ensures.written
