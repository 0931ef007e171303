use Rattle.std.proofs.Common.{rules, tests, ◌∙◌}
use Rattle.std.specs.Prelude.{◌==◌}
use Rattle.std.proofs.lemmas.Iterator.{YieldsList-from_slice}
use Rattle.std.proofs.lemmas.Iterator.Search.{find_from_yields_List}
use Rattle.symbols.proofs.sections.symbol_table.Goals as goal

pub returns : goal.returns
returns c =
    c.copied.ensures
    ∙ find_from_yields_List (λ section. section.sh_type == 2) _ _ _ c.find.ensures.ran (YieldsList-from_slice c.args.sections.now cc) (λ x b q k. search (rules, tests))
