-- What the definition of the symbol that names an address comes to.
use Rattle.std.proofs.Common.{ℕ, Some, List, [], ◌∷◌, refl, ap, ◌∙◌, arith}
use Rattle.std.specs.Prelude.{filter}
use Rattle.std.specs.Cmp.{IsStrictWeakOrder}
use Rattle.std.specs.List.{reduce}
use Rattle.std.proofs.lemmas.Bool.Decides.{nat_tests}
use Rattle.std.proofs.lemmas.List.MinMax.{IsFirstBest-from_best_of}
use Rattle.std.proofs.lemmas.Option.{slice_get-get_or}
use Rattle.symbols.specs.Covering.{covers, covering, first_of_two, is_before, IsFirstOf}
use Rattle.symbols.specs.Symbol.{Symbol}

-- to go before another symbol is an order
before_order : IsStrictWeakOrder is_before
before_order = record {
  one_way = λ x y before. grind (arith, nat_tests, before);
  chain = λ x y z first second. grind (arith, nat_tests, first, second);
}

first_of : (symbols : List Symbol) → IsFirstOf symbols (reduce first_of_two symbols)
first_of [] = refl
first_of (symbol ∷ symbols) =
    let best = IsFirstBest-from_best_of before_order symbol symbols in
    (best.0, best.1, slice_get-get_or (symbol ∷ symbols) best.0 symbol best.1.0 ∙ ap Some best.2)

pub covering_first : (symbols : List Symbol) (address : ℕ) → IsFirstOf (filter (covers address) symbols) (covering symbols address)
unfolding covering
covering_first symbols address = first_of (filter (covers address) symbols)
