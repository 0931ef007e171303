use Rattle.std.proofs.Common.{◌≡◌, ◌++◌, map}
use Rattle.std.specs.String.{string_bytes}
use Rattle.gdb_shown.specs.Description.{first_described}
use Rattle.gdb_shown.proofs.description.write_entries.Given as goal

abbrev pub invariant-loop-number : goal.invariant-loop-number
invariant-loop-number l = string_bytes l.text ≡ string_bytes l.initial.text ++ first_described (map (λ name. name.now) l.names) l.number
