use Rattle.guest_memory.specs.Memory.{Memory}
use Rattle.paged_memory.specs.PageMap.{PageMap, memory_of_pages}
use Rattle.paged_memory.specs.PageTree as tree
use Rattle.paged_memory.specs.declared.snapshot.Snapshot.{Snapshot}

-- the pages of a snapshot
unfoldable pub pages_of : Snapshot → PageMap
pages_of snapshot = tree.pages_of snapshot.tree

-- a snapshot as a map
abbrev pub cells_of : Snapshot → Memory
cells_of snapshot = memory_of_pages (pages_of snapshot)
