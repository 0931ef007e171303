use Rattle.std.proofs.Common.{◌∙◌, ap, sym, arith, get_or}
use Rattle.std.specs.Prelude.{slice_set}
use Rattle.std.proofs.lemmas.List.{get_or_default}
use Rattle.std.proofs.lemmas.List.Edits.{map_over_more}
use Rattle.thread_table.specs.Thread.{let_go}
use Rattle.thread_table.proofs.Lists.{let_go-joiner, let_go-other}
use Rattle.thread_table.proofs.threads.let_go_joiners.Goals as goal
use Rattle.thread_table.proofs.threads.let_go_joiners.Goals.{then-is_joiner_of, else-is_joiner_of}

pub loop-thread-preserved : goal.loop-thread-preserved
loop-thread-preserved c =
    let n = c.args.n in
    let i = c.loop-thread.thread-index in
    let threads = c.loop-thread.threads in
    let thread = get_or threads i c.thread-item.result in
    let read = get_or_default threads i c.thread-item.result thread (omega arith) in
    let more = map_over_more (let_go n) c.args.threads.now threads i thread (omega arith) c.loop-thread.invariant read in
    let told = sym c.is_joiner_of.ensures in
    elim c.if-is_joiner_of.branch [
      | then-is_joiner_of w ↦
          w.threads-is ∙ ap (slice_set threads i) (sym (let_go-joiner n thread (told ∙ w.if-is_joiner_of.true))) ∙ more
      | else-is_joiner_of w ↦
          w.threads-is ∙ ap (slice_set threads i) (sym (let_go-other n thread (told ∙ w.if-is_joiner_of.false))) ∙ more
    ]
