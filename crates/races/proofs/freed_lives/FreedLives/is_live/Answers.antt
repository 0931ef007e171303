use Rattle.races.proofs.freed_lives.FreedLives.is_live.Goals as goal

pub returns-else-is_empty : goal.returns-else-is_empty
returns-else-is_empty c known lives knows place block = knows.live c.args.word place block (c.has.ensures known)
