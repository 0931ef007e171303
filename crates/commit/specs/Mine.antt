use Rattle.std.specs.Prelude.{ℕ, List}
use Rattle.std.specs.Arc.{arc_value}
use Rattle.paged_memory.specs.Bytes.{with_part}
use Rattle.commit.specs.declared.mine.Mine.{Mine}
use Rattle.commit.specs.declared.mine.Mine.TheVariants as variants

-- the bytes of a page as a thread left it, where it found these
unfoldable pub bytes_left : List ℕ → Mine → List ℕ
bytes_left found (variants.Group group) = with_part group.at group.bytes found
bytes_left found (variants.Page page) = (arc_value page).bytes

-- it is one group, and not the page
abbrev pub IsGroup : Mine → Type 0
IsGroup (variants.Group group) = Unit {0}
IsGroup (variants.Page page) = ⊥
