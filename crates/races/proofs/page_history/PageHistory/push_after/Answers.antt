use Rattle.std.proofs.Common.{◌≡◌, ◌+◌, ℕ, arith, get_or, length, set, ◌++◌, ◌∷◌, ◌∙◌, [], List, ap, refl, subst, sym}
use Rattle.races.specs.Blocks.{AreKnown, MayCome}
use Rattle.races.specs.Linked.{AreLinked, IsAt, latest_in}
use Rattle.races.specs.Words.{IsKept}
use Rattle.races.specs.declared.kept_access.KeptAccess.{KeptAccess}
use Rattle.races.proofs.Blocked.{known_push, known_set}
use Rattle.races.proofs.Linked.{linked_after, kept_push, kept_same, latest_push, latest_set, push_at_kept, same_at}
use Rattle.races.proofs.page_history.PageHistory.push_after.Goals as goal

-- an entry that leads to another one
abbrev leading : (number : ℕ) → KeptAccess → KeptAccess
leading number was = record { latest = was.latest; place = was.place; next = number }

-- the entry that is changed is the one that was there before the other was pushed
changed : (old items : List KeptAccess) (index number : ℕ) (new was last : KeptAccess) → IsAt old index was → items ≡ old ++ new ∷ [] → last ≡ get_or items index last
    → set items index (leading number last) ≡ set (old ++ new ∷ []) index (leading number was)
changed old items index number new was last there pushed value =
    let at_more = push_at_kept old new index was there in
    let same : last ≡ was = same_at (old ++ new ∷ []) index last was (at_more.0, sym (value ∙ ap (λ (all : List KeptAccess). get_or all index last) pushed)) at_more in
    ap (λ (all : List KeptAccess). set all index (leading number last)) pushed ∙ ap (λ (one : KeptAccess). set (old ++ new ∷ []) index (leading number one)) same

pub returns : goal.returns
returns c = λ entry is_at.
    let own = c.args.own in
    let index = c.args.index in
    let last : KeptAccess = c.index.result.now in
    let now : KeptAccess = leading c.in_ok-number.number last in
    let new : KeptAccess = record { latest = own; place = last.place; next = 0 } in
    let old = c.args.self.now.entries.items in
    let there : IsAt old index last = (is_at.0, sym c.index.ensures) in
    let at_more = push_at_kept old new index last there in
    let stays = latest_set (old ++ new ∷ []) index last now last.place at_more refl (λ here. refl) in
    let put : IsKept own (latest_in old last.place) (latest_in (set (old ++ new ∷ []) index now) last.place) = kept_same own _ _ _ _ refl (sym stays) (kept_push old new own refl) in
    let place_is = ap (λ (one : KeptAccess). one.place) (same_at old index entry last is_at there) in
    let pushed = sym (c.set_guess.ensures ∙ changed old c.push.new.self.items index c.in_ok-number.number new last c.index_mut.result.now there c.in_ok-push.ensures.items c.index_mut.ensures.value) in
    record {
      own =
          subst (λ (one : KeptAccess). IsKept own (latest_in old one.place) (latest_in c.set_guess.new.self.entries.items one.place)) (same_at old index last entry there is_at)
          (subst (λ (all : List KeptAccess). IsKept own (latest_in old last.place) (latest_in all last.place)) pushed put);
      others = λ other apart.
          subst (λ (all : List KeptAccess). latest_in all other ≡ latest_in old other) pushed
          (latest_set (old ++ new ∷ []) index last now other at_more refl (λ here. refl) ∙ latest_push old new other (λ same. apart (place_is ∙ same)));
    }

pub invariant_of-self-2 : goal.invariant_of-self-2
invariant_of-self-2 c =
    let page = c.args.self.now in
    let index = c.args.index in
    let own = c.args.own in
    let last : KeptAccess = c.index.result.now in
    let now : KeptAccess = leading c.in_ok-number.number last in
    let new : KeptAccess = record { latest = own; place = last.place; next = 0 } in
    let old = page.entries.items in
    let wanted = c.requires in
    let there : IsAt old index last = (wanted.1.0, sym c.index.ensures) in
    let same = same_at old index wanted.0 last wanted.1 there in
    let end : last.next ≡ 0 = ap (λ (one : KeptAccess). one.next) (sym same) ∙ wanted.2 in
    let may : MayCome page.blocks.items last.place own = subst (λ (one : KeptAccess). MayCome page.blocks.items one.place own) same wanted.3 in
    let long = page.entries.ok.0 in
    let number : c.in_ok-number.number ≡ length old + 1 = omega (arith, c.in_ok-number.ensures) in
    let more : List KeptAccess = old ++ new ∷ [] in
    let pushed = sym (changed old c.push.new.self.items index c.in_ok-number.number new last c.index_mut.result.now there c.in_ok-push.ensures.items c.index_mut.ensures.value) in
    let at_more = push_at_kept old new index last there in
    record {
      sized = page.sized;
      linked = subst (AreLinked page.firsts.items) pushed (linked_after page.firsts.items old index last now new there end refl refl refl number page.linked);
      known = subst (AreKnown page.blocks.items) pushed (known_set page.blocks.items more index last now at_more refl refl refl (known_push page.blocks.items old new may page.known));
    }
