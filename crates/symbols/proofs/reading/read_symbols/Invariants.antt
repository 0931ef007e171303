use Rattle.std.proofs.Common.{◌≡◌}
use Rattle.std.specs.Prelude.{All}
use Rattle.symbols.specs.Kept.{HasName, kept_symbols}
use Rattle.symbols.proofs.Rows.{symbols_before}
use Rattle.symbols.proofs.reading.read_symbols.Given as goal

abbrev pub invariant-loop-row : goal.invariant-loop-row
invariant-loop-row l = record {
  symbols : kept_symbols l.strings l.symbols.items ≡ symbols_before l.strings l.table l.kind l.row;
  within : All (HasName l.strings) l.symbols.items;
}
