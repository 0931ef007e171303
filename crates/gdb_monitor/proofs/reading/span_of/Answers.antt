use Rattle.std.proofs.Common.{◌≡◌, ◌≤◌, List, [], ◌∷◌, None, length, map, refl, arith, ℕ}
use Rattle.gdb_monitor.specs.Commands.{span_in}
use Rattle.gdb_monitor.proofs.reading.span_of.Goals as goal

-- three words or more are no addresses
no_span : {A : Type 0} (read : A → List ℕ) (words : List A) → 3 ≤ length words → None ≡ span_in (map read words)
no_span read [] many = absurd (omega (arith, many))
no_span read (first ∷ []) many = absurd (omega (arith, many))
no_span read (first ∷ second ∷ []) many = absurd (omega (arith, many))
no_span read (first ∷ second ∷ third ∷ others) many = refl

pub returns-in_default-2 : goal.returns-in_default-2
returns-in_default-2 c = no_span (λ word. word.now) c.args.words.now c.in_default.len_at_least
