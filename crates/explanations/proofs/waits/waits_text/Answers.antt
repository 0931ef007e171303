use Rattle.std.proofs.Common.{◌∙◌, ◌++◌, ℕ, List, ap, arith, get_or, sym}
use Rattle.symbols.specs.Symbol.{SymbolLists}
use Rattle.thread_table.specs.declared.thread.Thread.{Thread}
use Rattle.std.specs.String.{string_bytes}
use Rattle.explanations.specs.Waits.{line_of}
use Rattle.explanations.proofs.Lines.{lines_more}
use Rattle.explanations.proofs.waits.waits_text.Goals as goal

pub loop-number-preserved : goal.loop-number-preserved
loop-number-preserved c =
    let symbols : SymbolLists = c.args.symbols.now in
    let threads : List Thread = c.args.threads.now in
    let number : ℕ = c.loop-number.number in
    let one : Thread = c.index-threads-number.result in
    c.in_ok-write_thread.ensures
    ∙ ap (λ (thread : Thread). string_bytes c.loop-number.text ++ line_of symbols number thread) c.index-threads-number.is
    ∙ ap (λ (before : List ℕ). before ++ line_of symbols number (get_or threads number one)) c.loop-number.invariant
    ∙ sym (lines_more symbols threads number _ one (omega arith) (omega arith))
