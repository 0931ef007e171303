use Rattle.std.proofs.Common.{◌≡◌, true, take}
use Rattle.std.specs.List.{list_all}
use Rattle.token.specs.Outcome.{is_done}
use Rattle.token.proofs.verdict.are_done.Given as goal

abbrev pub invariant-loop-number : goal.invariant-loop-number
invariant-loop-number l = list_all is_done (take l.number l.threads) ≡ true
