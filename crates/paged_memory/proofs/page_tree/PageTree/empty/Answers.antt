use Rattle.paged_memory.proofs.PageTrees.{cells_of-empty}
use Rattle.paged_memory.proofs.page_tree.PageTree.empty.Goals as goal

pub returns : goal.returns
returns c = cells_of-empty c.args.alloc
