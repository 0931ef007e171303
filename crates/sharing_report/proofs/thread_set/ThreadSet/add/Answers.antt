use Rattle.std.proofs.Common.{◌≡◌, ◌≤◌, ◌<◌, ◌++◌, ◌∷◌, [], ℕ, List, Bool, true, false, set, refl, sym, subst, ap, ◌∙◌, arith, length, length-append}
use Rattle.std.specs.Prelude.{slice_index_or}
use Rattle.std.proofs.lemmas.List.{get_or_default}
use Rattle.sharing_report.specs.Changers.{is_among}
use Rattle.sharing_report.proofs.Adding.{member_again, member_more, new_count, same_turn_count}
use Rattle.sharing_report.proofs.thread_set.ThreadSet.add.Goals as goal

pub returns-then-not-index : goal.returns-then-not-index
returns-then-not-index c threads has few =
    let items : List Bool = c.args.self.now.has.items in
    let thread : ℕ = c.args.thread in
    let small : thread < 256 = omega arith in
    let long = c.args.self.now.full in
    let full : length items ≡ 256 = omega (arith, c.args.self.now.has.ok.0, long) in
    let read : false ≡ slice_index_or items c.from-place.result false = subst (λ (b : Bool). b ≡ slice_index_or items c.from-place.result b) c.if-not-index.true c.index.ensures in
    let apart : is_among threads thread ≡ false = sym (has.members thread small) ∙ ap (λ (n : ℕ). slice_index_or items n false) (sym c.from-place.ensures) ∙ sym read in
    let counted = new_count threads thread apart in
    let was = has.count in
    let fits = has.fits in
    let added = c.saturating_add-self.ensures in record {
      count = omega arith;
      fits = omega (arith, length-append threads (thread ∷ []));
      members = subst (λ (n : ℕ). (other : ℕ) → other < 256 → slice_index_or (set items n true) other false ≡ is_among (threads ++ thread ∷ []) other) (sym c.from-place.ensures)
          (member_more items threads thread full small has.members);
    }

pub returns-else-not-index : goal.returns-else-not-index
returns-else-not-index c threads has few =
    let items : List Bool = c.args.self.now.has.items in
    let thread : ℕ = c.args.thread in
    let small : thread < 256 = omega arith in
    let read : true ≡ slice_index_or items c.from-place.result true = subst (λ (b : Bool). b ≡ slice_index_or items c.from-place.result b) c.if-not-index.false c.index.ensures in
    let long = c.args.self.now.full in
    let inside : c.from-place.result < length items = omega (arith, c.args.self.now.has.ok.0, long, c.from-place.ensures) in
    let here : is_among threads thread ≡ true =
    sym (has.members thread small) ∙ ap (λ (n : ℕ). slice_index_or items n false) (sym c.from-place.ensures) ∙ get_or_default items c.from-place.result false true inside ∙ sym read in
    let fits = has.fits in record {
      count = has.count ∙ sym (same_turn_count threads thread here);
      fits = omega (arith, length-append threads (thread ∷ []));
      members = λ other within. has.members other within ∙ sym (member_again threads thread here other);
    }
