use Rattle.std.proofs.Common.{◌≡◌, ◌∙◌, ◌&&◌, Bool, true, false, refl, sym}
use Rattle.std.proofs.lemmas.Result.{on_ok_weaker}
use Rattle.races.specs.Bytes.{has}
use Rattle.races.specs.Words.{found_at}
use Rattle.races.specs.declared.byte_set.ByteSet.{ByteSet}
use Rattle.races.specs.declared.found_race.FoundRace.{FoundRace}
use Rattle.races.proofs.Found.{finding_hit, finding_skip}
use Rattle.races.proofs.Kept.{not_none, some_byte}
use Rattle.races.proofs.race_search.find_race.Goals as goal

both_true : (a b : Bool) → (a && b) ≡ true → (a ≡ true) × (b ≡ true)
both_true true b is = (refl, is)
both_true false b is = absurd (cc is)

and_true : (a b : Bool) → a ≡ true → b ≡ true → (a && b) ≡ true
and_true true b one other = other
and_true false b one other = absurd (cc one)

pub returns-clause-own : goal.returns-clause-own
returns-clause-own c =
    let past = c.args.past.now in
    let access = c.args.access.now in
    let bytes : ByteSet = c.common-bytes.result in
    let race : FoundRace = record { bytes = bytes; first = past.site; second = access.site; step = c.args.step } in
    let place = some_byte bytes (sym c.if-is_empty.ensures) in
    on_ok_weaker c.note.result
    (λ noted steps latest done knows among times step finding.
    finding_hit steps access c.args.clocks.now latest done past (found_at c.args.races.now.words access.word) (found_at c.note.new.self.words access.word) race times knows among (c.if-not-is_hit.ensures.0 refl) refl refl
    (λ at_place there. both_true (has past.bytes at_place) (has access.bytes at_place) (sym (c.common-bytes.ensures at_place) ∙ there))
    (λ at_place there here. c.common-bytes.ensures at_place ∙ and_true (has past.bytes at_place) (has access.bytes at_place) there here)
    place.0 place.1 noted finding)
    c.note.ensures.noted

pub returns-then-not-is_hit-clause-own : goal.returns-then-not-is_hit-clause-own
returns-then-not-is_hit-clause-own c steps latest done knows among times step finding =
    let access = c.args.access.now in
    finding_skip steps access c.args.clocks.now done c.args.past.now (found_at c.args.races.now.words access.word) (λ place hit there here. absurd (cc (c.if-not-is_hit.ensures.1 hit))) finding

pub returns-then-is_empty-clause-own : goal.returns-then-is_empty-clause-own
returns-then-is_empty-clause-own c steps latest done knows among times step finding =
    let past = c.args.past.now in
    let access = c.args.access.now in
    let bytes : ByteSet = c.common-bytes.result in
    finding_skip steps access c.args.clocks.now done past (found_at c.args.races.now.words access.word)
    (λ place hit there here.
    let some = not_none bytes place (c.common-bytes.ensures place ∙ and_true (has past.bytes place) (has access.bytes place) there here) in
    absurd (cc (some, c.if-is_empty.ensures)))
    finding
