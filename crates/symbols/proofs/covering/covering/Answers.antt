use Rattle.std.proofs.Common.{◌<◌, ◌≤◌, subst, Option, List, length, refl, sym, ap, ◌∙◌, false, get_or, []}
use Rattle.std.specs.Prelude.{Contains, IfSome, option_map}
use Rattle.std.proofs.lemmas.List.Elements.{Contains-get_or}
use Rattle.std.proofs.lemmas.List.{take_all}
use Rattle.symbols.specs.declared.kept_symbol.KeptSymbol.{KeptSymbol}
use Rattle.symbols.specs.Covering.{covering}
use Rattle.symbols.specs.Kept.{kept_symbols, symbol_in}
use Rattle.symbols.proofs.Choosing.{chosen_holds, covering_more-covered, covering_more-left, covers_from_below}
use Rattle.symbols.proofs.covering.covering.Goals as goal
use Rattle.symbols.proofs.covering.covering.Goals.{then-covers, else-covers}

-- what a list has past its end
abbrev nothing : KeptSymbol
nothing = record { name = 0; name_size = 0; is_global = false; value = 0; size = 0 }

pub loop-symbol-init : goal.loop-symbol-init
unfolding covering kept_symbols
loop-symbol-init c = record { symbol = λ strings. refl; among = tt; below = tt }

pub loop-symbol-preserved : goal.loop-symbol-preserved
loop-symbol-preserved c =
    let inside : c.loop-symbol.symbol-index < length c.args.symbols.now = c.loop-symbol-test.true in
    elim c.if-covers.branch [
      | then-covers w ↦
          record {
            symbol = λ strings.
                ap (option_map (symbol_in strings)) w.first-is
                ∙ covering_more-covered strings c.args.symbols.now c.loop-symbol.symbol-index _ c.args.address c.loop-symbol.first w.after.result inside (c.loop-symbol.invariant.symbol strings) (sym (c.covers.ensures strings) ∙ w.if-covers.true) (w.after.ensures.symbol strings);
            among = subst (λ (o : Option KeptSymbol). IfSome o (Contains c.args.symbols.now)) (sym w.first-is)
                (chosen_holds (Contains c.args.symbols.now) c.loop-symbol.first w.after.result _ w.after.ensures.either (Contains-get_or c.args.symbols.now c.loop-symbol.symbol-index _ inside) c.loop-symbol.invariant.among);
            below = subst (λ (o : Option KeptSymbol). IfSome o (λ symbol. symbol.value ≤ c.args.address)) (sym w.first-is)
                (chosen_holds (λ symbol. symbol.value ≤ c.args.address) c.loop-symbol.first w.after.result _ w.after.ensures.either (covers_from_below c.args.address (symbol_in [] (get_or c.args.symbols.now c.loop-symbol.symbol-index nothing)) (sym (c.covers.ensures []) ∙ w.if-covers.true)) c.loop-symbol.invariant.below);
          }
      | else-covers w ↦
          record {
            symbol = λ strings.
                ap (option_map (symbol_in strings)) w.first-is
                ∙ covering_more-left strings c.args.symbols.now c.loop-symbol.symbol-index _ c.args.address c.loop-symbol.first inside (c.loop-symbol.invariant.symbol strings) (sym (c.covers.ensures strings) ∙ w.if-covers.false);
            among = subst (λ (o : Option KeptSymbol). IfSome o (Contains c.args.symbols.now)) (sym w.first-is) c.loop-symbol.invariant.among;
            below = subst (λ (o : Option KeptSymbol). IfSome o (λ symbol. symbol.value ≤ c.args.address)) (sym w.first-is) c.loop-symbol.invariant.below;
          }
    ]

pub returns-clause-symbol : goal.returns-clause-symbol
returns-clause-symbol c strings =
    c.loop-symbol.invariant.symbol strings
    ∙ ap (λ (seen : List KeptSymbol). covering (kept_symbols strings seen) c.args.address) (take_all c.loop-symbol.symbol-index c.args.symbols.now c.loop-symbol-test.false)
