use Rattle.std.proofs.Common.{◌≡◌, ◌≤◌, ℕ, List, take}
use Rattle.std.specs.Prelude.{Contains, IfSome, option_map}
use Rattle.symbols.specs.Covering.{covering}
use Rattle.symbols.specs.Kept.{kept_symbols, symbol_in}
use Rattle.symbols.proofs.covering.covering.Given as goal

abbrev pub invariant-loop-symbol : goal.invariant-loop-symbol
invariant-loop-symbol l = record {
  symbol : (strings : List ℕ) → option_map (symbol_in strings) l.first ≡ covering (kept_symbols strings (take l.symbol-index l.symbols)) l.address;
  among : IfSome l.first (Contains l.symbols);
  below : IfSome l.first (λ symbol. symbol.value ≤ l.address);
}
