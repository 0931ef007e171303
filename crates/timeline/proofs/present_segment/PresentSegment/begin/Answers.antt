use Rattle.std.proofs.Common.{◌≡◌, ◌∙◌, ap, sym, subst, arith}
use Rattle.guest_memory.specs.Memory.{Memory}
use Rattle.hart.proofs.Segments.{begun}
use Rattle.hart.specs.Slice.{Runs}
use Rattle.paged_memory.specs.PageMap.{memory_of_pages}
use Rattle.paged_memory.specs.Snapshot.{cells_of}
use Rattle.twins.specs.View as views
use Rattle.timeline.proofs.present_segment.PresentSegment.begin.Goals as goal

pub returns-clause-underway : goal.returns-clause-underway
returns-clause-underway c =
    let opened = c.open.ensures in
    let copy : views.cells_of c.open.result ≡ cells_of (views.base_of c.open.result) = ap memory_of_pages opened.pages ∙ sym (ap cells_of opened.base) in
    let whole : cells_of (views.base_of c.open.result) ≡ cells_of c.in_ok-try_clone.field-0 =
    ap cells_of opened.base ∙ ap memory_of_pages (c.in_ok-try_clone-3.ensures.pages ∙ sym c.in_ok-try_clone.ensures.pages) in
    record {
      stands = record {
        runs = subst (λ (memory : Memory). Runs c.args.work.segment.hart (cells_of c.in_ok-try_clone.field-0) c.args.work.segment.left c.args.work.segment.quantum 0 c.args.work.segment.hart memory) (sym (copy ∙ whole)) (begun _ _ _ _);
        within = λ none. omega arith;
        quantum = λ none. c.requires;
        is_trap = tt;
      };
      under = ap memory_of_pages (c.in_ok-try_clone-2.ensures.pages ∙ sym c.in_ok-try_clone-3.ensures.pages) ∙ sym (ap cells_of opened.base);
      whole = λ is. whole;
    }
