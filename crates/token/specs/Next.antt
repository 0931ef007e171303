use Rattle.std.specs.Prelude.{◌≡◌}
use Rattle.token.specs.declared.next.Next.{Next}
use Rattle.token.specs.declared.next.Next.TheVariants.{Turn, Ended}
use Rattle.token.specs.Point.{Point, IsNeededAt, need_at}
use Rattle.token.specs.declared.need.Need.TheVariants as need

-- how a run goes on from a point: by a turn with what it needs there, or not at all
abbrev pub IsNext : Point → Next → Type 0
IsNext point (Turn end) = IsNeededAt point end
IsNext point (Ended outcome) = need_at point ≡ need.Ended outcome
