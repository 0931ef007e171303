use Rattle.std.proofs.Common.{◌≡◌, ◌∙◌, ap, sym, subst}
use Rattle.guest_memory.specs.Memory.{Memory}
use Rattle.commit.specs.ByteMap.{ByteMap}
use Rattle.commit.specs.Merge.{with_changes}
use Rattle.paged_memory.specs.PageMap.{memory_of_pages}
use Rattle.paged_memory.specs.Snapshot.{cells_of}
use Rattle.twins.specs.View as views
use Rattle.timeline.specs.Underway.{Stands, origin_of}
use Rattle.timeline.proofs.Merged.{merged}
use Rattle.timeline.proofs.present_segment.PresentSegment.begun.Goals as goal

pub returns-clause-stands : goal.returns-clause-stands
returns-clause-stands c =
    let view = c.args.self.now.view in
    let kept : cells_of c.apply.new.snapshot ≡ views.cells_of view =
    c.in_ok-apply.ensures.merged
    ∙ ap (λ (memory : Memory). with_changes c.in_ok-patch.patch memory) (ap memory_of_pages c.in_ok-memory.ensures.pages ∙ c.requires.under)
    ∙ ap (λ (patch : ByteMap). with_changes patch (cells_of (views.base_of view))) c.in_ok-patch.ensures ∙ merged view in
    let self = c.args.self.now in
    subst (λ (memory : Memory). Stands (origin_of self) self.done self.trap self.hart memory) (sym kept) c.requires.stands
