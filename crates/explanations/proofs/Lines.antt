-- The lines of the first threads, with one more thread.
use Rattle.std.proofs.Common.{◌≡◌, ◌∙◌, ℕ, Option, Some, List, [], ◌++◌, ap, ◌<◌, suc, length, get_or}
use Rattle.std.specs.Prelude.{slice_get}
use Rattle.std.specs.Option.{option_map_or}
use Rattle.std.proofs.lemmas.Option.{slice_get-get_or}
use Rattle.symbols.specs.Symbol.{SymbolLists}
use Rattle.thread_table.specs.declared.thread.Thread.{Thread}
use Rattle.explanations.specs.Waits.{line_of, lines_before}

pub lines_more : (symbols : SymbolLists) (threads : List Thread) (number next : ℕ) (default : Thread) → next ≡ suc number → number < length threads
    → lines_before symbols threads next ≡ lines_before symbols threads number ++ line_of symbols number (get_or threads number default)
unfolding lines_before
lines_more symbols threads number next default is inside =
    ap (lines_before symbols threads) is
    ∙ ap (λ (one : Option Thread). lines_before symbols threads number ++ option_map_or (line_of symbols number) one [])
    (slice_get-get_or threads number default inside)
