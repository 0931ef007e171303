use Rattle.std.proofs.Common.{◌≡◌, take}
use Rattle.std.specs.List.{flat_map}
use Rattle.core_file.specs.Notes.{note}
use Rattle.core_file.proofs.notes.notes_of.Given as goal

abbrev pub invariant-loop-thread : goal.invariant-loop-thread
invariant-loop-thread l = l.notes.items ≡ flat_map note (take l.thread-index l.threads)
