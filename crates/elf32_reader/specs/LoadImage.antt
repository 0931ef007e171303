use Rattle.std.specs.Prelude.{◌≡◌, ℕ, ◌%◌, ◌<◌, ◌≤◌, ◌&&◌, true, false, IsTrue, if◌then◌else◌, Some, List, [], ◌∷◌, find, sum_by, option_map}
use Rattle.std.specs.List.{list_any}
use Rattle.guest_memory.specs.Memory.{Cell, Memory}
use Rattle.guest_memory.specs.Layout.{is_in_stack, image_pages}
use Rattle.elf32_reader.specs.LoadSegment.{LoadSegment, IsLoadable, first_page, last_page, page_count, covers, cell_at}

-- a loaded program: where thread 0 begins, and the segments
pub record LoadImage : Type 0 where
  pub entry : ℕ
  pub segments : List LoadSegment

-- the segments are loadable, and each lies on pages above those of the one before
abbrev pub AreOrdered : List LoadSegment → Type 0
AreOrdered [] = Unit {0}
AreOrdered (segment ∷ []) = IsLoadable segment
AreOrdered (segment ∷ next ∷ segments) =
    IsLoadable segment × (last_page segment < first_page next) × AreOrdered (next ∷ segments)

-- what holds of each image
pub record IsSound (image : LoadImage) : Type 0 where
  pub ordered : AreOrdered image.segments
  pub pages : sum_by page_count image.segments ≤ image_pages
  pub aligned : image.entry % 4 ≡ 0
  pub executable : IsTrue (list_any (λ segment. covers image.entry segment && segment.perm.execute) image.segments)

-- a cell of thread 0's stack at the start
abbrev pub stack_cell : Cell
stack_cell = record { perm = record { read = true; write = true; execute = false }; byte = 0 }

-- The memory of a loaded program: thread 0's stack, and else what the segment has that touches the address's page.
abbrev pub memory_of : LoadImage → Memory
memory_of image address =
    if is_in_stack address then Some stack_cell else option_map (cell_at address) (find (covers address) image.segments)
