use Rattle.std.proofs.Common.{ap, sym, ◌∙◌, arith}
use Rattle.paged_memory.specs.PageMap.{memory_of_pages}
use Rattle.paged_memory.specs.Snapshot.{cells_of}
use Rattle.schedule_core.proofs.Coming.{begins}
use Rattle.schedule_core.proofs.stepped_segment.SteppedSegment.begin.Goals as goal

pub returns-clause-underway : goal.returns-clause-underway
returns-clause-underway c = begins c.args.work.segment _ _ (omega arith) (ap memory_of_pages c.open-view.ensures.pages ∙ sym (ap cells_of c.open-view.ensures.base))
