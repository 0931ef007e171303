use Rattle.std.proofs.Common.{◌≡◌, ◌∙◌, ap, subst}
use Rattle.guest_memory.specs.Memory.{Memory}
use Rattle.decoded_code.specs.Code.{HasCode}
use Rattle.decoded_code.proofs.Coding.{code_kept}
use Rattle.paged_memory.specs.PageMap.{memory_of_pages}
use Rattle.paged_memory.specs.Snapshot.{pages_of, cells_of}
use Rattle.twins.specs.View.{base_of, private_of}
use Rattle.twins.specs.View as views
use Rattle.segment.proofs.Coding.{view_keeps}
use Rattle.segment.proofs.underway.Underway.go_on.Goals as goal

pub run_coded_slice-requires-clause-code : goal.run_coded_slice-requires-clause-code
run_coded_slice-requires-clause-code c =
    let view = c.self.inside.view in
    let same : cells_of c.in_ok-base.base ≡ cells_of (base_of view) = ap memory_of_pages c.in_ok-base.ensures.pages ∙ ap cells_of c.base.ensures in
    let code = subst (λ (memory : Memory). HasCode c.code-code.result.start c.code-code.result.entries.now memory) same c.code-code.ensures in
    code_kept _ _ (cells_of (base_of view)) (views.cells_of view) code (view_keeps (pages_of (base_of view)) (private_of view) view.twins)
