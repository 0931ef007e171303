use Rattle.std.proofs.Common.{◌≡◌, ◌+◌, ◌<◌, ◌∷◌, [], ◌++◌, length, take, ap, sym, ◌∙◌, arith}
use Rattle.std.specs.List.Sorted.{IsStrictlyIncreasing}
use Rattle.std.proofs.lemmas.List.{take_all, take_more}
use Rattle.paged_memory.specs.PageMap.{memory_of_pages}
use Rattle.commit.specs.ByteMap.{ByteMap}
use Rattle.commit.specs.Merge.{with_bytes, with_changes}
use Rattle.commit.specs.Patched.{patched, numbers_of}
use Rattle.paged_memory.specs.Snapshot.{cells_of}
use Rattle.commit.proofs.Growing.{AreBelow-item}
use Rattle.commit.proofs.Merges.{with_bytes-none, with_bytes-more}
use Rattle.commit.proofs.Viewed.{with_changes-snapshot}
use Rattle.commit.proofs.merging.apply_beside.Goals as goal

pub loop-page-init : goal.loop-page-init
loop-page-init c = ap memory_of_pages c.in_ok-merged.ensures.pages ∙ sym (with_bytes-none (cells_of c.args.snapshot.now))

pub loop-page-preserved : goal.loop-page-preserved
loop-page-preserved c =
    let pages = c.pages-page-items.result.now in
    let done = c.loop-page.page-index in
    let within : done < length pages = omega arith in
    let ascending : IsStrictlyIncreasing (numbers_of pages) = c.pages-page-items.ensures.ascending in
    let more : take (done + 1) pages ≡ take done pages ++ c.page-item.result ∷ [] =
    take_more pages done c.page-item.result within ∙ ap (λ page. take done pages ++ page ∷ []) (sym c.page-item.is) in
    c.in_ok-merge_into.ensures.merged ∙ ap (with_bytes (patched (c.page-item.result ∷ []))) c.loop-page.invariant
    ∙ with_bytes-more (take done pages) c.page-item.result (cells_of c.args.snapshot.now) (AreBelow-item pages done c.page-item.result ascending within c.page-item.is)
    ∙ ap (λ prefix. with_bytes (patched prefix) (cells_of c.args.snapshot.now)) (sym more)

pub returns-clause-merged : goal.returns-clause-merged
returns-clause-merged c =
    let pages = c.pages-page-items.result.now in
    let all : take c.loop-page.page-index pages ≡ pages = take_all c.loop-page.page-index pages (omega arith) in
    c.loop-page.invariant ∙ ap (λ pages. with_bytes (patched pages) (cells_of c.args.snapshot.now)) all
    ∙ sym (with_changes-snapshot (patched pages) c.args.snapshot.now)
    ∙ ap (λ (bytes : ByteMap). with_changes bytes (cells_of c.args.snapshot.now)) c.pages-page-items.ensures.pages
