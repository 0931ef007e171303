-- Ranges that are seen one after the other, in place.
use Rattle.std.proofs.Common.{◌≡◌, ◌∙◌, ℕ, ◌+◌, ◌<◌, ◌||◌, Bool, true, false, if◌then◌else◌, List, [], ◌∷◌, ◌++◌, map, take, drop, length, get_or, refl, sym, ap, arith, append-nil}
use Rattle.std.specs.Prelude.{filter, slice_set}
use Rattle.std.proofs.lemmas.List.{drop_more, get_or_at, get_or-map, length-map, length-take-le, map-append, map-set}
use Rattle.std.proofs.lemmas.List.Edits.{map_over_more}
use Rattle.std.proofs.lemmas.List.Elements.{filter_more}
use Rattle.timeline.specs.Moment.{Moment}
use Rattle.gdb_shown.specs.Watching.{Range, after_step, has, is_changed, other_of, range_of, seen_by}
use Rattle.gdb_shown.specs.declared.seen_range.SeenRange.{SeenRange}
use Rattle.gdb_shown.specs.declared.watching.WatchHit.{WatchHit}

-- those before an index are as they are to be, and the others as they were
abbrev pub AreSeen : (Range → Range) → (old new : List Range) → ℕ → Type 0
AreSeen f old new index = new ≡ map f (take index old) ++ drop index old

-- one more is seen
pub one_seen : (f : Range → Range) (old seen : List SeenRange) (index : ℕ) (default after : SeenRange) → index < length old → index < length seen
    → AreSeen f (map range_of old) (map range_of seen) index → range_of after ≡ f (range_of (get_or seen index default))
    → AreSeen f (map range_of old) (map range_of (slice_set seen index after)) (index + 1)
one_seen f old seen index default after within there so_far is =
    let range : Range = range_of (get_or seen index default) in
    let inside : index < length (map range_of old) = omega (arith, length-map old range_of) in
    map-set range_of seen index after
    ∙ ap (slice_set (map range_of seen) index) is
    ∙ map_over_more f (map range_of old) (map range_of seen) index range inside so_far (sym (get_or-map range_of seen index default range there))

-- the one at the index is as it was
as_it_was : (f : Range → Range) (old new : List Range) (index : ℕ) (default : Range) → index < length old → AreSeen f old new index → get_or new index default ≡ get_or old index default
as_it_was f old new index default within so_far =
    ap (λ ranges. get_or ranges index default) so_far
    ∙ ap (λ rest. get_or (map f (take index old) ++ rest) index default) (drop_more old index default within)
    ∙ get_or_at (map f (take index old)) (get_or old index default) (drop (index + 1) old) default index (length-map (take index old) f ∙ length-take-le index old (omega arith))

-- the tellings, with those of one more range
one_told : (f : Range → Range) (is : Range → Bool) (tell : Range → WatchHit) (old seen : List SeenRange) (index : ℕ) (default : SeenRange) → index < length old → index < length seen
    → AreSeen f (map range_of old) (map range_of seen) index
    → map tell (filter is (take (index + 1) (map range_of old)))
    ≡ map tell (filter is (take index (map range_of old))) ++ (if is (range_of (get_or seen index default)) then tell (range_of (get_or seen index default)) ∷ [] else [])
one_told f is tell old seen index default within there so_far =
    let range : Range = range_of (get_or seen index default) in
    let ranges : List Range = map range_of old in
    let inside : index < length ranges = omega (arith, length-map old range_of) in
    let same : get_or ranges index range ≡ range =
    sym (as_it_was f ranges (map range_of seen) index range inside so_far) ∙ get_or-map range_of seen index default range there in
    ap (map tell) (filter_more is ranges index range inside)
    ∙ map-append tell (filter is (take index ranges)) (if is (get_or ranges index range) then get_or ranges index range ∷ [] else [])
    ∙ ap (λ more. map tell (filter is (take index ranges)) ++ more) (ap (λ range. map tell (if is range then range ∷ [] else [])) same ∙ by_test (is range) range)
  where
    by_test : (test : Bool) (range : Range) → map tell (if test then range ∷ [] else []) ≡ (if test then tell range ∷ [] else [])
    by_test true range = refl
    by_test false range = refl

-- one more range is told
pub told_one : (f : Range → Range) (is : Range → Bool) (tell : Range → WatchHit) (old seen : List SeenRange) (index : ℕ) (default : SeenRange) → index < length old → index < length seen
    → AreSeen f (map range_of old) (map range_of seen) index → is (range_of (get_or seen index default)) ≡ true
    → map tell (filter is (take index (map range_of old))) ++ tell (range_of (get_or seen index default)) ∷ [] ≡ map tell (filter is (take (index + 1) (map range_of old)))
told_one f is tell old seen index default within there so_far told =
    let range : Range = range_of (get_or seen index default) in
    ap (λ test. map tell (filter is (take index (map range_of old))) ++ (if test then tell range ∷ [] else [])) (sym told)
    ∙ sym (one_told f is tell old seen index default within there so_far)

-- one more range isn't told
pub told_none : (f : Range → Range) (is : Range → Bool) (tell : Range → WatchHit) (old seen : List SeenRange) (index : ℕ) (default : SeenRange) → index < length old → index < length seen
    → AreSeen f (map range_of old) (map range_of seen) index → is (range_of (get_or seen index default)) ≡ false
    → map tell (filter is (take index (map range_of old))) ≡ map tell (filter is (take (index + 1) (map range_of old)))
told_none f is tell old seen index default within there so_far not_told =
    let range : Range = range_of (get_or seen index default) in
    let before : List WatchHit = map tell (filter is (take index (map range_of old))) in
    sym (append-nil before)
    ∙ ap (λ test. before ++ (if test then tell range ∷ [] else [])) (sym not_told)
    ∙ sym (one_told f is tell old seen index default within there so_far)

-- a range that is told is told as it was
pub as_told : (moment : Moment) (told : WatchHit) (before : List SeenRange) (thread : ℕ) (range after : Range) → after ≡ after_step moment told before range → other_of thread after ≡ other_of thread range
as_told moment told before thread range after is =
    ap (other_of thread) is ∙ by_test (has range told.address || is_changed moment told.thread before range)
  where
    by_test : (test : Bool) → other_of thread (if test then seen_by moment told.thread range else range) ≡ other_of thread range
    by_test true = refl
    by_test false = refl
