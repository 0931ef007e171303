use Rattle.std.proofs.Common.{None, inl, inr, arith}
use Rattle.std.proofs.lemmas.Bool.{cases_lt}
use Rattle.std.proofs.lemmas.List.{get_or_past}
use Rattle.paged_memory.proofs.node.Node.empty.Goals as goal

pub returns-clause-entries : goal.returns-clause-entries
returns-clause-entries g c index =
    elim (cases_lt index 32) [
      | inl within ↦ c.default.ensures.at index None within
      | inr past ↦ (let size = c.default.ensures.long in get_or_past c.default.result index None (omega arith))
    ]

pub returns-clause-pages : goal.returns-clause-pages
returns-clause-pages g c number =
    elim (cases_lt (g.T.Level.digit number) 32) [
      | inl within ↦ rw (c.default.ensures.at (g.T.Level.digit number) None within)
      | inr past ↦ (let size = c.default.ensures.long in rw (get_or_past c.default.result (g.T.Level.digit number) None (omega arith)))
    ]
