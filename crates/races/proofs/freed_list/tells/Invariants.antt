use Rattle.std.proofs.Common.{◌≡◌, ℕ, ◌<◌, get_or, length}
use Rattle.races.specs.Freed.{Tells}
use Rattle.races.specs.declared.freed_access.FreedAccess.{FreedAccess}
use Rattle.races.proofs.freed_list.tells.Given as goal

abbrev pub invariant-loop-number : goal.invariant-loop-number
invariant-loop-number l =
    (at : ℕ) (one : FreedAccess) → at < l.number-index → get_or l.numbers at 0 < length l.told → get_or l.told (get_or l.numbers at 0) one ≡ one → Tells one l.access l.block → ⊥
