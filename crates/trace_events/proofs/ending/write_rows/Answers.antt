use Rattle.std.proofs.Common.{ℕ, ◌++◌, ◌∙◌, List, ap, append_assoc, arith, get_or, sym, take}
use Rattle.std.specs.List.{enumerate_from, flat_map}
use Rattle.std.specs.String.{string_bytes}
use Rattle.std.proofs.lemmas.List.{take_all}
use Rattle.std.proofs.lemmas.List.FromFn.{length-enumerate_from}
use Rattle.trace_events.specs.Ending.{thread_row}
use Rattle.trace_events.specs.Recording.{blank}
use Rattle.trace_events.specs.declared.thread_state.ThreadState.{ThreadState}
use Rattle.trace_events.proofs.Rows.{rows_more}
use Rattle.trace_events.proofs.ending.write_rows.Goals as goal

pub loop-thread-preserved : goal.loop-thread-preserved
loop-thread-preserved c =
    let states : List ThreadState = c.args.threads.now in
    let at : ℕ = c.loop-thread.thread in
    let state : ThreadState = get_or states at blank in
    c.in_ok-write_thread.ensures
    ∙ ap (λ (text : List ℕ). text ++ thread_row (at, state)) c.loop-thread.invariant
    ∙ append_assoc (string_bytes c.args.text.now) (flat_map thread_row (take at (enumerate_from 0 states))) (thread_row (at, state))
    ∙ ap (λ (rest : List ℕ). string_bytes c.args.text.now ++ rest) (sym (rows_more thread_row states at blank c.loop-thread-test.true))

pub returns : goal.returns
returns c =
    let states : List ThreadState = c.args.threads.now in
    let at : ℕ = c.loop-thread.thread in
    c.loop-thread.invariant
    ∙ ap (λ (rows : List ℕ). string_bytes c.args.text.now ++ rows) (ap (flat_map thread_row) (take_all at (enumerate_from 0 states) (omega (arith, length-enumerate_from 0 states))))
