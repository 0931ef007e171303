use Rattle.std.proofs.Common.{◌++◌, ◌∙◌, ℕ, List, [], ◌∷◌, ap, sym, take}
use Rattle.std.proofs.lemmas.List.{take_more}
use Rattle.std.proofs.lemmas.Option.{get_or_from_slice_get, slice_get_within}
use Rattle.thread_table.specs.declared.thread.Thread.{Thread}
use Rattle.runtime.proofs.reporting.all_of.Goals as goal

pub loop-number-preserved : goal.loop-number-preserved
loop-number-preserved c =
    let threads : List Thread = c.args.threads.now in
    let number : ℕ = c.loop-number.number in
    let one : Thread = c.get.result.now in
    c.in_ok-push.ensures.items
    ∙ ap (λ (all : List Thread). all ++ one ∷ []) c.loop-number.invariant
    ∙ ap (λ (thread : Thread). take number threads ++ thread ∷ []) (sym (get_or_from_slice_get threads number one one c.get.ensures))
    ∙ sym (take_more threads number one (slice_get_within threads number one c.get.ensures))
