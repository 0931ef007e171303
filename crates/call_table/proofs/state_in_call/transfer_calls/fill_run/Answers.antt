use Rattle.std.proofs.Common.{◌≡◌, ◌∙◌, ◌-◌, ◌%◌, ℕ, List, Some, ap, sym, refl, length}
use Rattle.std.specs.Prelude.{if◌then◌else◌, slice_index}
use Rattle.std.specs.Arc.{arc_value}
use Rattle.guest_memory.specs.Layout.{page_of}
use Rattle.paged_memory.specs.Mapping.{is_among}
use Rattle.paged_memory.specs.Page.{PageValue}
use Rattle.paged_memory.specs.PageMap.{PageMap, memory_of_pages, with_page}
use Rattle.paged_memory.specs.Snapshot.{pages_of}
use Rattle.call_table.proofs.Runs.{page-missing, page-stored}
use Rattle.call_table.proofs.state_in_call.transfer_calls.fill_run.Goals as goal

pub returns-in_default : goal.returns-in_default
returns-in_default c = sym (page-missing (pages_of c.args.memory.now) c.args.address c.args.bytes.now c.in_default.ensures c.requires)

pub returns : goal.returns
returns c =
    let pages : PageMap = pages_of c.args.memory.now in
    let number : ℕ = page_of c.args.address in
    let start : ℕ = c.args.address % 4096 in
    let bytes : List ℕ = c.args.bytes.now in
    let page : PageValue = arc_value c.in-Some.page.now in
    let made : PageValue = record { perm = c.perm.result; bytes = c.overwrite.new.page } in
    let before : c.bytes.result.now ≡ page.bytes = c.bytes.ensures.bytes ∙ ap (λ (value : PageValue). value.bytes) c.deref.ensures in
    let permits : c.perm.result ≡ page.perm = c.perm.ensures.perm ∙ ap (λ (value : PageValue). value.perm) c.deref-2.ensures in
    let value : arc_value c.in_ok-filled.filled ≡ made = c.in_ok-filled.ensures.ok ∙ c.new.ensures in
    ap memory_of_pages (c.in_ok-replace.ensures.replaced ∙ ap (λ (value : PageValue). with_page number (λ _. Some value) pages) value)
    ∙ page-stored pages number c.args.address page made bytes c.in-Some.ensures refl permits c.requires
    (λ i below. c.overwrite.ensures i below ∙ ap (λ (old : List ℕ). if is_among start (length bytes) i then slice_index bytes (i - start) else slice_index old i) before)
