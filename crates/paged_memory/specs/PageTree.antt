use Rattle.std.specs.Prelude.{◌/◌, ◌%◌, ◌^◌, nat_lt, if◌then◌else◌, Some, None}
use Rattle.paged_memory.specs.Page.{PageValue}
use Rattle.paged_memory.specs.PageMap.{PageMap}
use Rattle.paged_memory.specs.PageTable.{pages_of_entry, pages_of_node}
use Rattle.paged_memory.specs.declared.node.Node.{Node}
use Rattle.paged_memory.specs.declared.page_tree.PageTree.{PageTree}

-- the pages of the nodes of each level
abbrev pub pages_of_leaf : Node PageValue → PageMap
pages_of_leaf node = pages_of_node (λ page _. Some page) (λ number. number % 32) node.entries

abbrev pub pages_of_lower : Node (Node PageValue) → PageMap
pages_of_lower node = pages_of_node pages_of_leaf (λ number. number / 32 % 32) node.entries

abbrev pub pages_of_upper : Node (Node (Node PageValue)) → PageMap
pages_of_upper node = pages_of_node pages_of_lower (λ number. number / 32 / 32 % 32) node.entries

abbrev pub pages_of_root : Node (Node (Node (Node PageValue))) → PageMap
pages_of_root node = pages_of_node pages_of_upper (λ number. number / 32 / 32 / 32 % 32) node.entries

-- the pages of a tree
unfoldable pub pages_of : PageTree → PageMap
pages_of tree number = if nat_lt number (2 ^ 20) then pages_of_entry pages_of_root tree.root number else None
