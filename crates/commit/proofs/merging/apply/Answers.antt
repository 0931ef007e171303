use Rattle.std.proofs.Common.{◌≡◌, ◌<◌, ◌≤◌, List, [], ◌∷◌, length, refl, ap, sym, ◌∙◌, subst, arith}
use Rattle.std.specs.Prelude.{OnOk, slice_index_or}
use Rattle.guest_memory.specs.Memory.{Memory}
use Rattle.commit.specs.ByteMap.{ByteMap, byte_map}
use Rattle.commit.specs.Merge.{with_bytes, with_changes}
use Rattle.commit.specs.Patched.{PageChange, patched}
use Rattle.paged_memory.specs.Snapshot.{cells_of}
use Rattle.paged_memory.specs.declared.snapshot.Snapshot.{Snapshot}
use Rattle.commit.proofs.Merges.{with_bytes-none}
use Rattle.commit.proofs.Viewed.{with_changes-snapshot}
use Rattle.commit.proofs.merging.apply.Goals as goal

empty : (pages : List PageChange) → length pages < 1 → pages ≡ []
empty [] below = refl
empty (change ∷ pages) below = absurd (omega arith)

-- the changes of a patch, by its pages
changed : (patch : ByteMap) (pages : List PageChange) (snapshot : Snapshot) → byte_map (patched pages) ≡ patch →
    with_changes patch (cells_of snapshot) ≡ with_bytes (patched pages) (cells_of snapshot)
changed patch pages snapshot is = ap (λ (bytes : ByteMap). with_changes bytes (cells_of snapshot)) (sym is) ∙ with_changes-snapshot (patched pages) snapshot

pub returns-in-empty-clause-merged : goal.returns-in-empty-clause-merged
returns-in-empty-clause-merged c =
    let none : c.pages.result.now ≡ [] = empty c.pages.result.now c.in-empty.len_below in
    sym (changed c.args.patch.now c.pages.result.now c.args.snapshot.now c.pages.ensures.pages
    ∙ ap (λ pages. with_bytes (patched pages) (cells_of c.args.snapshot.now)) none ∙ with_bytes-none (cells_of c.args.snapshot.now))

single : (page : PageChange) (pages : List PageChange) → 1 ≤ length pages → length pages < 2 → page ≡ slice_index_or pages 0 page → page ∷ [] ≡ pages
single page [] above below is = absurd (omega arith)
single page (one ∷ []) above below is = ap (λ change. change ∷ []) is
single page (one ∷ other ∷ pages) above below is = absurd (omega arith)

pub returns-in-len1-clause-merged : goal.returns-in-len1-clause-merged
returns-in-len1-clause-merged c =
    let alone : c.page-item.result ∷ [] ≡ c.pages.result.now = single c.page-item.result c.pages.result.now (omega arith) (omega arith) c.page-item.is in
    subst (λ (merged : Memory). OnOk c.merge_into.result (cells_of c.merge_into.new.snapshot ≡ merged))
    (ap (λ pages. with_bytes (patched pages) (cells_of c.args.snapshot.now)) alone
    ∙ sym (changed c.args.patch.now c.pages.result.now c.args.snapshot.now c.pages.ensures.pages))
    c.merge_into.ensures.merged
