use Rattle.std.proofs.Common.{◌≡◌, true, Some, ◌∙◌, refl, sym, subst}
use Rattle.std.proofs.lemmas.Result.{on_ok_weaker}
use Rattle.races.specs.Bytes.{has}
use Rattle.races.specs.declared.freed_access.FreedAccess.{FreedAccess}
use Rattle.races.specs.declared.freed_block.FreedBlock.{FreedBlock}
use Rattle.races.proofs.Freeing.{IsCovered}
use Rattle.races.proofs.FreedTold.{adds_covered, adds_told, both_ok}
use Rattle.races.proofs.freed_lives.FreedLives.touch_byte.Goals as goal

same_some : (one other : FreedBlock) → Some one ≡ Some other → one ≡ other
same_some one other is = cc

-- the byte isn't dead
pub returns-in_default : goal.returns-in_default
returns-in_default c =
    let access = c.args.access.now in
    let is : has access.bytes c.args.place ≡ true = sym c.has_byte.ensures ∙ c.if-not-has_byte.false in
    adds_covered c.args.self.now access c.args.place is (λ block held. absurd (c.in_default.not-Some block ((c.block_at.ensures block).1 held)))

pub returns-then-tells : goal.returns-then-tells
returns-then-tells c =
    let lives = c.args.self.now in
    let access = c.args.access.now in
    let is : has access.bytes c.args.place ≡ true = sym c.has_byte.ensures ∙ c.if-not-has_byte.false in
    let known = c.tells.ensures.some c.if-tells.true in
    let covered : IsCovered lives.list.told.items access c.in-Some.block = record { one = known.0; there = known.1; tells = known.2 } in
    adds_covered lives access c.args.place is
    (λ block held. subst (IsCovered lives.list.told.items access) (same_some c.in-Some.block block (sym c.in-Some.is ∙ (c.block_at.ensures block).1 held)) covered)

pub returns : goal.returns
returns c =
    let lives = c.args.self.now in
    let access = c.args.access.now in
    let is : has access.bytes c.args.place ≡ true = sym c.has_byte.ensures ∙ c.if-not-has_byte.false in
    let one : FreedAccess = record { site = access.site; word = access.word; bytes = c.dead_bytes-bytes.result; block = c.in-Some.block } in
    on_ok_weaker c.push.result
    (λ told. adds_told lives (record lives { list = c.push.new.self }) access c.args.place one is refl (λ live. live) told.0 told.1 ((c.block_at.ensures c.in-Some.block).0 c.in-Some.is) refl refl c.dead_bytes-bytes.ensures
    (c.tells.ensures.none c.if-tells.false))
    (both_ok _ _ c.push.result c.push.ensures.told c.push.ensures.listed)
