use Rattle.std.proofs.Common.{◌≡◌, ◌++◌, ◌∙◌, ℕ, List, ap, take, arith, codes, decimal}
use Rattle.std.specs.List.{flat_map}
use Rattle.std.specs.String.{string_bytes}
use Rattle.std.proofs.lemmas.List.{take_all}
use Rattle.explored_text.specs.Commands.{threads_text}
use Rattle.explored_text.proofs.differences.push_threads.Goals as goal

pub returns : goal.returns
unfolding threads_text
returns c =
    let threads : List ℕ = c.args.threads.now in
    let whole : take c.loop-thread.thread-index threads ≡ threads = take_all c.loop-thread.thread-index threads (omega arith) in
    c.loop-thread.invariant ∙ ap (λ (all : List ℕ). string_bytes c.args.text.now ++ flat_map (λ thread. codes " " ++ decimal thread) all) whole
