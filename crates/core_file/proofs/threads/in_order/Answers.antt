use Rattle.std.proofs.Common.{◌++◌, ◌∙◌, ℕ, List, [], ◌∷◌, ap, arith, get_or, sym}
use Rattle.thread_table.specs.declared.thread.Thread.{Thread}
use Rattle.core_file.specs.Shown.{core_thread}
use Rattle.core_file.specs.declared.core_thread.CoreThread.{CoreThread}
use Rattle.core_file.proofs.Numbered.{row_more}
use Rattle.core_file.proofs.threads.in_order.Goals as goal

pub loop-number-preserved : goal.loop-number-preserved
loop-number-preserved c =
    let threads : List Thread = c.args.threads.now in
    let number : ℕ = c.loop-number.number in
    let one : Thread = c.index-threads-number.result in
    c.in_ok-push.ensures.items
    ∙ ap (λ (shown : CoreThread). c.loop-number.shown.items ++ shown ∷ []) (c.core_thread.ensures ∙ ap (λ (thread : Thread). core_thread c.args.outcome number thread) c.index-threads-number.is)
    ∙ ap (λ (shown : List CoreThread). shown ++ core_thread c.args.outcome number (get_or threads number one) ∷ []) c.loop-number.invariant
    ∙ sym (row_more c.args.outcome threads number one (omega arith))
