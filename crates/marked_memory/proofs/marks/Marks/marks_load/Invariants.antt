use Rattle.std.proofs.Common.{◌≡◌, ◌&&◌, false, take}
use Rattle.std.specs.List.{list_any}
use Rattle.marked_memory.specs.Marks.{has, looks_for_loads}
use Rattle.marked_memory.proofs.marks.Marks.marks_load.Given as goal

abbrev pub invariant-loop-watch : goal.invariant-loop-watch
invariant-loop-watch l = list_any (λ watch. looks_for_loads watch.kind && has watch l.address) (take l.watch-index l.watch-items) ≡ false
