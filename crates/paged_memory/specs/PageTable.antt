use Rattle.std.specs.Prelude.{ℕ, Bool, ◌==◌, ◌&&◌, if◌then◌else◌, Option, None, List, slice_index_or}
use Rattle.std.specs.Option.{option_and_then}
use Rattle.std.specs.declared.alloc.Global.{Global}
use Rattle.std.specs.declared.sync.Arc.{Arc}
use Rattle.std.specs.Arc.{arc_value}
use Rattle.paged_memory.specs.Page.{PageValue}
use Rattle.paged_memory.specs.PageMap.{PageMap}

-- the pages of an entry, none where it is empty
abbrev pub pages_of_entry : {T : Type 0} → (T → PageMap) → Option (Arc T Global) → PageMap
pages_of_entry pages entry number = option_and_then (λ child. pages (arc_value child) number) entry

-- the pages of a node: that of a number is one of the entry that its digit names
abbrev pub pages_of_node : {T : Type 0} → (T → PageMap) → (ℕ → ℕ) → List (Option (Arc T Global)) → PageMap
pages_of_node pages digit entries number = pages_of_entry pages (slice_index_or entries (digit number) None) number

-- the pages with those whose numbers a test accepts replaced by what is made of them
abbrev pub changed_where : (ℕ → Bool) → (Option PageValue → Option PageValue) → PageMap → PageMap
changed_where test made pages number = if test number then made (pages number) else pages number

-- whether two page numbers name one entry of a node, and one page in that entry
abbrev pub agree_below : (ℕ → ℕ) → (ℕ → ℕ → Bool) → ℕ → ℕ → Bool
agree_below digit agree number other = (digit number == digit other) && agree number other
