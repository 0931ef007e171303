use Rattle.paged_memory.proofs.Loading.{with_segment-mapped}
use Rattle.paged_memory.specs.WholeMemory.{cells_of}
use Rattle.paged_memory.proofs.whole_memory.WholeMemory.map_segment.Goals as goal

pub returns-clause-cells : goal.returns-clause-cells
returns-clause-cells c =
    rw (c.fill.ensures.cells, c.in_ok-map_zeros.ensures.cells, c.bytes.ensures, c.vaddr-start.ensures.vaddr, c.memsz.ensures.memsz, c.flags.ensures)
    (with_segment-mapped c.args.segment.now (cells_of c.args.self.now) c.vaddr-start.ensures.loadable)
