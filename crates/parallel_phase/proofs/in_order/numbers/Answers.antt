use Rattle.std.proofs.Common.{◌∙◌, ◌++◌, [], ◌∷◌, List, ℕ, ap, sym, arith}
use Rattle.std.proofs.lemmas.List.FromFn.{map-range_with_len_more}
use Rattle.parallel_phase.proofs.in_order.numbers.Goals as goal

pub loop-number-preserved : goal.loop-number-preserved
loop-number-preserved c =
    c.in_ok-push.ensures.items ∙ (ap (λ (names : List ℕ). names ++ c.loop-number.number ∷ []) c.loop-number.invariant ∙ sym (map-range_with_len_more (λ n. n) 0 c.loop-number.number c.loop-number.number (omega arith)))
