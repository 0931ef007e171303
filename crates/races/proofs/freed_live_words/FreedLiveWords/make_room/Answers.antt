use Rattle.std.proofs.Common.{◌≡◌, ℕ, ◌+◌, ◌%◌, List, ap, get_or, ◌∙◌, sym, arith}
use Rattle.races.proofs.Times.{none_there}
use Rattle.races.proofs.freed_live_words.FreedLiveWords.make_room.Goals as goal

pub returns-in-Ok : goal.returns-in-Ok
returns-in-Ok c other is =
    let made = c.in-Ok.ensures.items_if_clones_equal (λ y same. same) in
    let none : get_or c.in-Ok.slots.items (other % 4096) 0 ≡ 0 = ap (λ (all : List ℕ). get_or all (other % 4096) 0) made ∙ none_there 4096 (other % 4096) in
    absurd (omega arith)
