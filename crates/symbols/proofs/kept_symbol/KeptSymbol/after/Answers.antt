use Rattle.std.proofs.Common.{◌≡◌, ℕ, Bool, true, false, cond, Option, Some, List, ap, sym, ◌∙◌}
use Rattle.std.specs.Prelude.{option_map}
use Rattle.std.specs.Option.{option_map_or}
use Rattle.symbols.specs.Covering.{first_of_two, is_before}
use Rattle.symbols.specs.declared.kept_symbol.KeptSymbol.{KeptSymbol}
use Rattle.symbols.specs.Kept.{symbol_in}
use Rattle.symbols.proofs.kept_symbol.KeptSymbol.after.Goals as goal

-- which of the two is taken, by what the test says
taken : (strings : List ℕ) (earlier later : KeptSymbol) (first : Option KeptSymbol) (answer : Bool) → first ≡ Some earlier → is_before (symbol_in strings later) (symbol_in strings earlier) ≡ answer → cond answer (symbol_in strings later) (symbol_in strings earlier) ≡ option_map_or (λ before. first_of_two before (symbol_in strings later)) (option_map (symbol_in strings) first) (symbol_in strings later)
taken strings earlier later first answer is says =
    ap (λ (b : Bool). cond b (symbol_in strings later) (symbol_in strings earlier)) (sym says)
    ∙ ap (λ (o : Option KeptSymbol). option_map_or (λ before. first_of_two before (symbol_in strings later)) (option_map (symbol_in strings) o) (symbol_in strings later)) (sym is)

pub returns-then-is_before-clause-symbol : goal.returns-then-is_before-clause-symbol
returns-then-is_before-clause-symbol c strings =
    taken strings c.in-Some.earlier c.args.self.now c.args.first true c.in-Some.is (sym (c.is_before.ensures strings) ∙ c.if-is_before.true)

pub returns-else-is_before-clause-symbol : goal.returns-else-is_before-clause-symbol
returns-else-is_before-clause-symbol c strings =
    taken strings c.in-Some.earlier c.args.self.now c.args.first false c.in-Some.is (sym (c.is_before.ensures strings) ∙ c.if-is_before.false)
