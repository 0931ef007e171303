use Rattle.std.proofs.Common.{◌≡◌, ◌-◌, ◌++◌, map}
use Rattle.std.specs.List.{range_with_len}
use Rattle.hart.specs.HartState.{register}
use Rattle.core_file.specs.Fields.{words}
use Rattle.core_file.proofs.notes.put_registers.Given as goal

abbrev pub invariant-loop-register : goal.invariant-loop-register
invariant-loop-register l = l.notes.items ≡ l.initial.notes.items ++ words (map (register l.hart) (range_with_len 1 (l.register - 1)))
