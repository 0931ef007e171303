use Rattle.std.proofs.Common.{◌∙◌, ℕ, List, ap, get_or}
use Rattle.races.proofs.Times.{none_there}
use Rattle.races.proofs.lengths.Lengths.new.Goals as goal

pub returns : goal.returns
returns c thread =
    let made = c.in_ok-vec.ensures.items_if_clones_equal (λ y same. same) in
    ap (λ (all : List ℕ). get_or all thread 0) made ∙ none_there 256 thread
