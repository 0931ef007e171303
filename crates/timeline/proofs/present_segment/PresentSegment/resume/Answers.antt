use Rattle.std.proofs.Common.{◌≡◌, ◌∙◌, ap, sym, subst}
use Rattle.guest_memory.specs.Memory.{Memory}
use Rattle.paged_memory.specs.PageMap.{memory_of_pages}
use Rattle.paged_memory.specs.Snapshot.{cells_of}
use Rattle.twins.specs.View as views
use Rattle.timeline.specs.Underway.{Stands, origin_of}
use Rattle.timeline.proofs.present_segment.PresentSegment.resume.Goals as goal

pub returns-clause-underway : goal.returns-clause-underway
returns-clause-underway c =
    let begun = c.args.begun.now in
    let opened = c.open-view.ensures in
    let seen : views.cells_of c.open-view.result ≡ cells_of begun.memory = ap memory_of_pages (opened.pages ∙ c.in_ok-try_clone.ensures.pages) in
    let under : cells_of c.in_ok-under.under ≡ cells_of (views.base_of c.open-view.result) =
    ap memory_of_pages (c.in_ok-under.ensures.pages ∙ sym c.in_ok-try_clone.ensures.pages) ∙ sym (ap cells_of opened.base) in
    record {
      stands = subst (λ (memory : Memory). Stands (origin_of c.args.self.now) begun.done begun.trap begun.hart memory) (sym seen) c.requires;
      under = under;
      whole = λ is. cc;
    }
