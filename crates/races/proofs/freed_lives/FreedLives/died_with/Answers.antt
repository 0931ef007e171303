use Rattle.std.proofs.Common.{◌≡◌, ◌∙◌, None, Option, Some, ap, sym}
use Rattle.races.specs.declared.freed_block.FreedBlock.{FreedBlock}
use Rattle.races.proofs.freed_lives.FreedLives.died_with.Goals as goal

same_some : (one other : FreedBlock) → Some one ≡ Some other → one ≡ other
same_some one other is = cc

not_none : (found : Option FreedBlock) (block : FreedBlock) → found ≡ None → found ≡ Some block → ⊥
not_none found block none is = cc

pub returns-in-Some : goal.returns-in-Some
returns-in-Some c =
    let block = c.args.block.now in (
      λ same. (c.block_at.ensures block).0 (c.in-Some.is ∙ ap (λ (one : FreedBlock). Some one) (c.is_same.ensures.0 same)),
      λ held. c.is_same.ensures.1 (same_some c.in-Some.other block (sym c.in-Some.is ∙ (c.block_at.ensures block).1 held)),
    )

pub returns-in-None : goal.returns-in-None
returns-in-None c = (λ no. absurd (cc no), λ held. absurd (not_none c.block_at.result c.args.block.now c.in-None.is ((c.block_at.ensures c.args.block.now).1 held)))
