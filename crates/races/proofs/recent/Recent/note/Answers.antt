use Rattle.std.proofs.Common.{◌≡◌, ◌<◌, ℕ, List, arith, inl, inr, length, subst, sym, ⊎_elim}
use Rattle.std.specs.Prelude.{◌⊎◌, Contains}
use Rattle.races.specs.Recent.{IsSlotOf}
use Rattle.races.specs.declared.site.Access.{Access}
use Rattle.races.specs.declared.recent_access.RecentAccess.{RecentAccess}
use Rattle.races.proofs.Noting.{set_cases}
use Rattle.races.proofs.recent.Recent.note.Goals as goal

-- what is known of a slot by slots of before, by those from which they come
moved : (old slots : List RecentAccess) (since now : ℕ) (access : Access) (step : ℕ) (slot : RecentAccess) → now ≡ since → ((one : RecentAccess) → Contains slots one → (one.step ≡ 0) ⊎ Contains old one)
    → IsSlotOf slots now access step slot → IsSlotOf old since access step slot
moved old slots since now access step slot same from is = ⊎_elim
    (λ noted. inl (record {
      step_is = noted.step_is;
      site_is = noted.site_is;
      word_is = noted.word_is;
      bytes = ⊎_elim
          (λ all. inl all)
          (λ joined. inr (record {
            was = joined.was;
            there = ⊎_elim (λ empty. inl empty) (λ among. from joined.was among) joined.there;
            counts = let late = joined.counts in omega arith;
            site_is = joined.site_is;
            word_is = joined.word_is;
            bytes = joined.bytes;
          }))
          noted.bytes;
    }))
    (λ other. inr (⊎_elim (λ empty. inl empty) (λ among. from slot among) other))
    is

pub returns-then-place-len-clause-noted : goal.returns-then-place-len-clause-noted
returns-then-place-len-clause-noted c = λ slot among.
    let slots : List RecentAccess = c.make_room.new.self.slots.items in
    let long = c.make_room.new.self.slots.ok.0 in
    let is_len = c.len.ensures in
    let inside : c.place_of-place.result < length slots = omega (arith, c.if-place-len.true) in
    ⊎_elim
    (λ own.
    subst (λ (one : RecentAccess). IsSlotOf c.args.self.now.slots.items c.args.self.now.since c.args.access.now c.args.step one) own
    (moved c.args.self.now.slots.items slots c.args.self.now.since c.make_room.new.self.since c.args.access.now c.args.step c.taken_by.result c.make_room.ensures.since c.make_room.ensures.noted
    (c.taken_by.ensures slots (c.place_of-place.result, inside, sym c.index.ensures))))
    (λ before. inr (c.make_room.ensures.noted slot before))
    (set_cases slots c.place_of-place.result c.taken_by.result slot inside among)

pub returns-else-place-len-clause-noted : goal.returns-else-place-len-clause-noted
returns-else-place-len-clause-noted c = λ slot among. inr (c.make_room.ensures.noted slot among)
