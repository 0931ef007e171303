use Rattle.std.proofs.Common.{◌≡◌, ◌∙◌, ap, sym, subst}
use Rattle.guest_memory.specs.Memory.{Memory}
use Rattle.decoded_code.specs.Code.{HasCode}
use Rattle.hart.proofs.Segments.{begun}
use Rattle.hart.specs.Slice.{IsThere}
use Rattle.paged_memory.specs.PageMap.{memory_of_pages}
use Rattle.paged_memory.specs.Snapshot.{cells_of}
use Rattle.twins.specs.View as views
use Rattle.segment.proofs.underway.Underway.begin.Goals as goal

pub run_coded_slice-requires-clause-code : goal.run_coded_slice-requires-clause-code
run_coded_slice-requires-clause-code c =
    subst (λ (memory : Memory). HasCode c.code-code.result.start c.code-code.result.entries.now memory) (sym (ap memory_of_pages (c.open-view.ensures.pages ∙ c.in_ok-try_clone.ensures.pages))) c.code-code.ensures

pub progress-requires-clause-there : goal.progress-requires-clause-there
progress-requires-clause-there c =
    let opened = c.open-view.ensures in
    let base : views.cells_of c.open-view.result ≡ cells_of (views.base_of c.run_coded_slice.new.memory) =
    ap memory_of_pages opened.pages ∙ sym (ap cells_of opened.base) ∙ sym c.run_coded_slice.ensures.base in
    subst (λ (memory : Memory). IsThere c.args.segment.hart memory c.args.segment.left c.args.segment.quantum c.in_ok-end.end c.run_coded_slice.new.hart (views.cells_of c.run_coded_slice.new.memory)) base
    (c.in_ok-end.ensures.ends _ _ (begun _ _ _ _))
