use Rattle.std.proofs.lemmas.Result.{on_ok_weaker}
use Rattle.races.proofs.FreedTold.{adds_noted, adds_uses}
use Rattle.races.proofs.freed_lives.FreedLives.touch.Goals as goal

pub returns-then-not-has_word : goal.returns-then-not-has_word
returns-then-not-has_word c = adds_noted c.args.self.now c.note.new.self c.args.access.now c.note.ensures (c.has_word.ensures c.if-not-has_word.true)

pub returns : goal.returns
returns c =
    on_ok_weaker c.touch_byte-4.result
    (λ last. adds_uses c.args.self.now c.touch_byte.new.self c.touch_byte-2.new.self c.touch_byte-3.new.self c.touch_byte-4.new.self c.args.access.now
    c.in_ok-touch_byte.ensures c.in_ok-touch_byte-2.ensures c.in_ok-touch_byte-3.ensures last)
    c.touch_byte-4.ensures
