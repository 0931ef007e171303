use Rattle.std.proofs.Common.{◌≡◌, ◌∙◌, ap, sym, subst, arith}
use Rattle.guest_memory.specs.Memory.{Memory}
use Rattle.decoded_code.specs.Code.{HasCode}
use Rattle.hart.proofs.Segments.{begun}
use Rattle.hart.specs.Slice.{IsThere}
use Rattle.paged_memory.specs.PageMap.{memory_of_pages}
use Rattle.paged_memory.specs.Snapshot.{cells_of}
use Rattle.twins.specs.View as views
use Rattle.segment.proofs.Ending.{end_of}
use Rattle.segment.proofs.segment.Segment.run_within.Goals as goal

pub run_coded_slice-requires-clause-code : goal.run_coded_slice-requires-clause-code
run_coded_slice-requires-clause-code c =
    subst (λ (memory : Memory). HasCode c.code-code.result.start c.code-code.result.entries.now memory) (sym (ap memory_of_pages (c.open-view.ensures.pages ∙ c.in_ok-try_clone.ensures.pages))) c.code-code.ensures

pub returns-in-Unfinished-clause-none : goal.returns-in-Unfinished-clause-none
returns-in-Unfinished-clause-none c =
    let opened : views.cells_of c.open-view.result ≡ cells_of c.args.base.now = ap memory_of_pages (c.open-view.ensures.pages ∙ c.in_ok-try_clone.ensures.pages) in
    let there = subst (λ (memory : Memory). IsThere c.args.self.hart memory c.args.self.left c.args.self.quantum c.in_ok-end.end c.run_coded_slice.new.hart (views.cells_of c.run_coded_slice.new.memory)) opened
    (c.in_ok-end.ensures.ends _ _ (begun _ _ _ _)) in
    let runs = rw c.in-Unfinished.is at there in
    let further = rw c.in-Unfinished.is at c.in_ok-end.ensures.further in
    λ k below. runs.running k (omega (arith, further.0, below))

pub returns-clause-end : goal.returns-clause-end
returns-clause-end c =
    let opened : views.cells_of c.open-view.result ≡ cells_of c.args.base.now = ap memory_of_pages (c.open-view.ensures.pages ∙ c.in_ok-try_clone.ensures.pages) in
    let base : cells_of (views.base_of c.run_coded_slice.new.memory) ≡ cells_of c.args.base.now =
    c.run_coded_slice.ensures.base ∙ ap cells_of c.open-view.ensures.base ∙ ap memory_of_pages c.in_ok-try_clone.ensures.pages in
    let there = subst (λ (memory : Memory). IsThere c.args.self.hart memory c.args.self.left c.args.self.quantum c.in_ok-end.end c.run_coded_slice.new.hart (views.cells_of c.run_coded_slice.new.memory)) opened
    (c.in_ok-end.ensures.ends _ _ (begun _ _ _ _)) in
    end_of c.args.self (cells_of c.args.base.now) c.in-Stopped.stop c.in-Stopped.count c.run_coded_slice.new.hart c.run_coded_slice.new.memory _ base
    (rw c.in-Stopped.is at there) c.in_ok-end-in-Stopped.ensures
