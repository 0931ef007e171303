use Rattle.std.proofs.Common.{◌∙◌, ap, sym, subst}
use Rattle.guest_memory.specs.Memory.{Memory}
use Rattle.decoded_code.specs.Code.{HasCode}
use Rattle.paged_memory.specs.PageMap.{memory_of_pages}
use Rattle.segment.proofs.segment.Segment.run.Goals as goal

pub run_coded-requires : goal.run_coded-requires
run_coded-requires c =
    subst (λ (memory : Memory). HasCode c.code-code.result.start c.code-code.result.entries.now memory) (sym (ap memory_of_pages (c.open-view.ensures.pages ∙ c.in_ok-try_clone.ensures.pages))) c.code-code.ensures
