use Rattle.std.proofs.Common.{◌≡◌, ◌+◌, ◌<◌, List, ℕ, ◌∷◌, [], ◌++◌, length, take, ap, sym, ◌∙◌, arith}
use Rattle.std.specs.List.Sorted.{IsStrictlyIncreasing}
use Rattle.std.proofs.lemmas.List.{take_all, take_more}
use Rattle.commit.specs.ByteMap.{ByteMap}
use Rattle.commit.specs.Changed.{addresses_of}
use Rattle.commit.specs.Patched.{addresses_in, addresses_with, patched, numbers_of}
use Rattle.commit.proofs.ByteMaps.{addresses_of-byte_map}
use Rattle.commit.proofs.Patching.{addresses_with-more}
use Rattle.commit.proofs.Growing.{AreBelow-item, addresses_with-none}
use Rattle.commit.proofs.patch.changed_addresses.Goals as goal

pub loop-page-init : goal.loop-page-init
loop-page-init c = c.new-addresses.ensures.items ∙ sym addresses_with-none

pub loop-page-preserved : goal.loop-page-preserved
loop-page-preserved c =
    let pages = c.pages-page-items.result.now in
    let done = c.loop-page.page-index in
    let within : done < length pages = omega arith in
    let ascending : IsStrictlyIncreasing (numbers_of pages) = c.pages-page-items.ensures.ascending in
    let more : take (done + 1) pages ≡ take done pages ++ c.page-item.result ∷ [] =
    take_more pages done c.page-item.result within ∙ ap (λ page. take done pages ++ page ∷ []) (sym c.page-item.is) in
    let pushed = c.in_ok-push_addresses.ensures in
    pushed.pushed ∙ ap (λ (before : List ℕ). before ++ addresses_in c.page-item.result) c.loop-page.invariant
    ∙ sym (addresses_with-more (take done pages) c.page-item.result (AreBelow-item pages done c.page-item.result ascending within c.page-item.is) pushed.number pushed.copy pushed.mine)
    ∙ ap (λ prefix. addresses_with (patched prefix)) (sym more)

pub returns : goal.returns
returns c =
    let pages = c.pages-page-items.result.now in
    let all : take c.loop-page.page-index pages ≡ pages = take_all c.loop-page.page-index pages (omega arith) in
    c.loop-page.invariant ∙ ap (λ pages. addresses_with (patched pages)) all ∙ sym (addresses_of-byte_map (patched pages))
    ∙ ap (λ (bytes : ByteMap). addresses_of bytes) c.pages-page-items.ensures.pages
