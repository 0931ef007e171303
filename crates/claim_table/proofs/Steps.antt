-- Each step on a row keeps its rule, and tells its seat what it may.
use Rattle.std.proofs.Common.{◌≡◌, ◌≢◌, ℕ, zero, suc, ◌+◌, ◌-◌, ◌%◌, ◌^◌, ◌<◌, ◌≤◌, ⊎_elim, min, nat_lt, ◌==◌, List, [], ◌∷◌, ◌++◌, set, length, get_or, sym, refl, ap, ◌∙◌, subst, arith, length-append}
use Rattle.std.proofs.lemmas.Bool.{cases_lt}
use Rattle.std.proofs.lemmas.Bool.Decides.{nat_tests}
use mathlib.Core.Option.{some, some-injective, some-ne-none}
use lib.ListN.{get_elem?}
use Rattle.atomic_table.specs.Table.{State, Me, keeps, Allows, Splits, Joins, opening}
use Rattle.atomic_table.proofs.Lists.{at_set, at_snoc, set_again}
use Rattle.claim_table.specs.declared.log.Log.{Log}
use Rattle.claim_table.specs.declared.size.Size.{Size}
use Rattle.claim_table.specs.declared.seat_view.SeatView.{SeatView}
use Rattle.claim_table.specs.Logs.{total, times, one_if, Tally, tally, new_log, with_drawn, with_end, with_noted, with_seen, both, IsSame}
use Rattle.claim_table.specs.Draws.{AreDraws, IsDrawnOut}
use Rattle.claim_table.specs.Rule.{logs, IsPart, IsKept}
use Rattle.claim_table.specs.Plays.{IsDraw, IsNote, IsLook}
use Rattle.claim_table.specs.Seat.{spent}
use Rattle.claim_table.proofs.Totals.{total_more, total_set, total_push, total_append, total_within, total_part, total_none, total_one, times_push, times_append, times_empty, times_nothing, times_two, empty_if}

-- one more number is drawn
once_more : (number word jobs : ℕ) → word < jobs → one_if (nat_lt number (min word jobs)) + one_if (word == number) ≡ one_if (nat_lt number (min (word + 1) jobs))
once_more number word jobs below = grind (arith, nat_tests)

once_same : (number word jobs : ℕ) → jobs ≤ word → one_if (nat_lt number (min word jobs)) ≡ one_if (nat_lt number (min (word + 1) jobs))
once_same number word jobs past = let a : min word jobs ≡ jobs = omega arith in let b : min (word + 1) jobs ≡ jobs = omega arith in rw (a, b) refl

not_below : (number word jobs : ℕ) → jobs ≤ number → one_if (nat_lt number (min word jobs)) ≡ 0
not_below number word jobs past = grind (arith, nat_tests)

none_below : (number jobs : ℕ) → one_if (nat_lt number (min 0 jobs)) ≡ 0
none_below number jobs = grind (arith, nat_tests)

-- what a drawn number is below
drawn_below : (jobs word0 word1 : ℕ) (all : Tally) → AreDraws jobs word0 word1 all → (number : ℕ) → 0 < all.drawn number → number < jobs
drawn_below jobs word0 word1 all draws number was =
    let once = draws.each_once number in
    ⊎_elim (λ (below : number < jobs). below) (λ (past : jobs ≤ number). let none : one_if (nat_lt number (min word0 jobs)) ≡ 0 = not_below number word0 jobs past in absurd (omega arith)) (cases_lt number jobs)

-- every number is told by the same sums
abbrev Same : (ℕ → ℕ) → (ℕ → ℕ) → Type 0
Same f g = (number : ℕ) → f number ≡ g number

-- the words say the same of all who did the same
pub draws_same : (jobs word0 word1 : ℕ) (all other : Tally) → AreDraws jobs word0 word1 all → IsSame other all → AreDraws jobs word0 word1 other
draws_same jobs word0 word1 all other draws alike = record {
  counted = let c = draws.counted in let a = alike.entries in let b = alike.ended in omega arith;
  each_once = λ number. alike.drawn number ∙ draws.each_once number;
  ended = λ was. let b = alike.ended in draws.ended (omega arith);
  at_most = draws.at_most;
  is_least = λ other. let e = alike.noted word1 in let h = draws.is_least other in omega arith;
  below_noted = λ number was. let e = alike.noted number in draws.below_noted number (omega arith);
  noted_drawn = λ number was. let e = alike.noted number in let d = alike.drawn number in let h = draws.noted_drawn number (omega arith) in omega arith;
  seen_noted = λ number was. let e = alike.seen number in let d = alike.noted number in let h = draws.seen_noted number (omega arith) in omega arith;
}

-- a number was drawn
draws_number : (jobs word0 word1 : ℕ) (all more : Tally) → AreDraws jobs word0 word1 all → word0 < jobs
    → ((number : ℕ) → more.drawn number ≡ all.drawn number + one_if (word0 == number)) → Same more.noted all.noted → Same more.seen all.seen
    → more.entries ≡ all.entries + 1 → more.ended ≡ all.ended → AreDraws jobs (word0 + 1) word1 more
draws_number jobs word0 word1 all more draws below drawn noted seen entries ended = record {
  counted = let c = draws.counted in omega arith;
  each_once = λ number. drawn number ∙ ap (λ (k : ℕ). k + one_if (word0 == number)) (draws.each_once number) ∙ once_more number word0 jobs below;
  ended = λ was. let e = draws.ended (omega arith) in omega arith;
  at_most = draws.at_most;
  is_least = λ other. let e = noted word1 in let h = draws.is_least other in omega arith;
  below_noted = λ number was. let e = noted number in draws.below_noted number (omega arith);
  noted_drawn = λ number was. let e = noted number in let d = drawn number in let h = draws.noted_drawn number (omega arith) in omega arith;
  seen_noted = λ number was. let e = seen number in let d = noted number in let h = draws.seen_noted number (omega arith) in omega arith;
}

-- a seat ended
draws_none : (jobs word0 word1 : ℕ) (all more : Tally) → AreDraws jobs word0 word1 all → jobs ≤ word0
    → Same more.drawn all.drawn → Same more.noted all.noted → Same more.seen all.seen
    → more.entries ≡ all.entries → more.ended ≡ all.ended + 1 → AreDraws jobs (word0 + 1) word1 more
draws_none jobs word0 word1 all more draws past drawn noted seen entries ended = record {
  counted = let c = draws.counted in omega arith;
  each_once = λ number. drawn number ∙ draws.each_once number ∙ once_same number word0 jobs past;
  ended = λ was. omega arith;
  at_most = draws.at_most;
  is_least = λ other. let e = noted word1 in let h = draws.is_least other in omega arith;
  below_noted = λ number was. let e = noted number in draws.below_noted number (omega arith);
  noted_drawn = λ number was. let e = noted number in let d = drawn number in let h = draws.noted_drawn number (omega arith) in omega arith;
  seen_noted = λ number was. let e = seen number in let d = noted number in let h = draws.seen_noted number (omega arith) in omega arith;
}

-- a number that was drawn is noted
notes_number : (jobs word0 word1 : ℕ) (all more : Tally) (noted_number : ℕ) → AreDraws jobs word0 word1 all → 0 < all.drawn noted_number
    → Same more.drawn all.drawn → ((number : ℕ) → more.noted number ≡ all.noted number + one_if (noted_number == number)) → Same more.seen all.seen
    → more.entries ≡ all.entries → more.ended ≡ all.ended → AreDraws jobs word0 (min word1 noted_number) more
notes_number jobs word0 word1 all more this draws drawn_it drawn noted seen entries ended = record {
  counted = let c = draws.counted in omega arith;
  each_once = λ number. drawn number ∙ draws.each_once number;
  ended = λ was. draws.ended (omega arith);
  at_most = let h = draws.at_most in omega arith;
  is_least = λ other. ⊎_elim (λ (lower : word1 < this). let m : min word1 this ≡ word1 = omega arith in rw m (let e = noted word1 in let h = draws.is_least (λ is. other (m ∙ is)) in omega arith))
      (λ (here : this ≤ word1). let m : min word1 this ≡ this = omega arith in rw m (let e = noted this in grind (arith, nat_tests))) (cases_lt word1 this);
  below_noted = λ number was. let e = noted number in ⊎_elim (λ (was_noted : 0 < all.noted number). let h = draws.below_noted number was_noted in omega arith)
      (λ (none : all.noted number ≤ 0). let is : this ≡ number = grind (arith, nat_tests) in omega arith) (cases_lt 0 (all.noted number));
  noted_drawn = λ number was. let e = noted number in let d = drawn number in ⊎_elim (λ (was_noted : 0 < all.noted number). let h = draws.noted_drawn number was_noted in omega arith)
      (λ (none : all.noted number ≤ 0). let is : this ≡ number = grind (arith, nat_tests) in let h : 0 < all.drawn number = subst (λ (k : ℕ). 0 < all.drawn k) is drawn_it in omega arith) (cases_lt 0 (all.noted number));
  seen_noted = λ number was. let e = seen number in let d = noted number in let h = draws.seen_noted number (omega arith) in omega arith;
}

-- a noted number is seen
sees_number : (jobs word0 word1 : ℕ) (all more : Tally) → AreDraws jobs word0 word1 all → word1 < jobs
    → Same more.drawn all.drawn → Same more.noted all.noted → ((number : ℕ) → more.seen number ≡ all.seen number + one_if (word1 == number))
    → more.entries ≡ all.entries → more.ended ≡ all.ended → AreDraws jobs word0 word1 more
sees_number jobs word0 word1 all more draws below drawn noted seen entries ended = record {
  counted = let c = draws.counted in omega arith;
  each_once = λ number. drawn number ∙ draws.each_once number;
  ended = λ was. draws.ended (omega arith);
  at_most = draws.at_most;
  is_least = λ other. let e = noted word1 in let h = draws.is_least other in omega arith;
  below_noted = λ number was. let e = noted number in draws.below_noted number (omega arith);
  noted_drawn = λ number was. let e = noted number in let d = drawn number in let h = draws.noted_drawn number (omega arith) in omega arith;
  seen_noted = λ number was. let e = seen number in let d = noted number in ⊎_elim (λ (was_seen : 0 < all.seen number). let h = draws.seen_noted number was_seen in omega arith)
      (λ (none : all.seen number ≤ 0). let is : word1 ≡ number = grind (arith, nat_tests) in let h : 0 < all.noted number = subst (λ (k : ℕ). 0 < all.noted k) is (draws.is_least (λ same. absurd (omega arith))) in omega arith) (cases_lt 0 (all.seen number));
}

abbrev Fits : Size → List SeatView → Type 0
Fits size views = (place : ℕ) (view : SeatView) → get_elem? views place ≡ some view → IsPart size view

-- a view changes, and each is still one of the row
fits_set : (size : Size) (views : List SeatView) (place : ℕ) (new : SeatView) → Fits size views → IsPart size new → Fits size (set views place new)
fits_set size views place new fits part j view at = ⊎_elim (λ (here : (j ≡ place) × (new ≡ view)). subst (IsPart size) here.1 part)
    (λ (there : (j ≢ place) × (get_elem? views j ≡ some view)). fits j view there.1) (at_set views place j new view at)

fits_push : (size : Size) (views : List SeatView) (new : SeatView) → Fits size views → IsPart size new → Fits size (views ++ new ∷ [])
fits_push size views new fits part j view at = ⊎_elim (λ (there : get_elem? views j ≡ some view). fits j view there) (λ (here : new ≡ view). subst (IsPart size) here part) (at_snoc views new view j at)

fits_one : (size : Size) (view : SeatView) → IsPart size view → Fits size (view ∷ [])
fits_one size view part zero other at = subst (IsPart size) (some-injective view other at) part
fits_one size view part (suc place) other at = absurd (some-ne-none other (sym at))

-- no more seats have ended than there are
few_ended : (size : Size) (views : List SeatView) → Fits size views → (tally (logs views)).ended ≤ total (λ log. log.seats) (logs views)
few_ended size views fits = total_within (λ log. log.ended) (λ log. log.seats) views (λ place view at. (fits place view at).ended)

-- word 0 has room for one more
room_above : (k : ℕ) → k ≤ 320 → (k + 1) % 2 ^ 64 ≡ k + 1
room_above k small = grind arith

-- A view at its place, and the same view with another log: what changes in the sums.
module _ (views : List SeatView) (id : ℕ) (old : SeatView) (log : Log) (at : get_elem? views id ≡ some old) where
  abbrev new : SeatView
  new = record old { log = log }

  abbrev after : List SeatView
  after = set views id new

  more : (count : Log → ℕ) (k : ℕ) → count log ≡ count old.log + k → total count (logs after) ≡ total count (logs views) + k
  more count k e = total_more count views id old new k at e

  same : (count : Log → ℕ) → count log ≡ count old.log → total count (logs after) ≡ total count (logs views)
  same count e = let m : total count (logs after) ≡ total count (logs views) + 0 = more count 0 (omega arith) in omega arith

module _ {S : Type 0} (size : Size) (slots id : ℕ) (me : Me S SeatView) where
  abbrev Kept : State S SeatView → Type 0
  Kept = IsKept size

  -- the part of a seat whose log changes
  part_with : (log : Log) → 0 < me.0.log.seats → log.seats ≡ me.0.log.seats → log.ended ≤ log.seats → IsPart size me.0 → IsPart size (record me.0 { log = log })
  part_with log one seats ended part = record { size_is = λ any. part.size_is one; ended = ended; idle = λ none. absurd (omega arith) }

  pub draw_allows : me.0.log.seats ≡ 1 → me.0.log.ended ≡ 0 → Allows Kept slots id me 0 (λ n. (n + 1) % 2 ^ 64) (IsDraw me)
  draw_allows one going s kept homes at small =
      let word0 : ℕ = kept.word0 in
      let word1 : ℕ = kept.word1 in
      let all : Tally = tally (logs s.views) in
      let part : IsPart size me.0 = kept.parts id me.0 at in
      let size_is : me.0.size ≡ size = part.size_is (omega arith) in
      let jobs_is : me.0.size.jobs ≡ size.jobs = ap (λ (z : Size). z.jobs) size_is in
      let found : get_or s.words 0 0 ≡ word0 = ap (λ (ws : List ℕ). get_or ws 0 0) kept.words in
      let few : all.ended ≤ total (λ log. log.seats) (logs s.views) = few_ended size s.views kept.parts in
      let counted : all.entries + all.ended ≡ word0 = kept.draws.counted in
      let room : all.entries ≤ size.jobs = kept.room in
      let whole : total (λ log. log.seats) (logs s.views) ≡ size.seats = kept.whole in
      let fits : (size.jobs ≤ 256) × (size.seats ≤ 64) = kept.fits in
      let next : (word0 + 1) % 2 ^ 64 ≡ word0 + 1 = room_above word0 (omega arith) in
      let words : set s.words 0 ((get_or s.words 0 0 + 1) % 2 ^ 64) ≡ (word0 + 1) ∷ word1 ∷ [] = ap (λ (ws : List ℕ). set ws 0 ((get_or ws 0 0 + 1) % 2 ^ 64)) kept.words ∙ ap (λ (k : ℕ). k ∷ word1 ∷ []) next in
      ⊎_elim
      (λ (below : word0 < size.jobs).
      let log : Log = with_drawn me.0.log word0 in
      let entries : (tally (logs (after s.views id me.0 log at))).entries ≡ all.entries + 1 = more s.views id me.0 log at (λ log. length log.drawn) 1 (length-append me.0.log.drawn (word0 ∷ [])) in
      let mine : length me.0.log.drawn ≤ all.entries = total_part (λ log. length log.drawn) s.views id me.0 at in (
        new s.views id me.0 log at,
        keeps,
        tt,
        record {
          word0 = word0 + 1;
          word1 = word1;
          words = words;
          draws = draws_number size.jobs word0 word1 all (tally (logs (after s.views id me.0 log at))) kept.draws below
              (λ number. more s.views id me.0 log at (λ log. times number log.drawn) (one_if (word0 == number)) (times_push number word0 me.0.log.drawn))
              (λ number. same s.views id me.0 log at (λ log. times number log.noted) refl) (λ number. same s.views id me.0 log at (λ log. times number log.seen) refl)
              entries (same s.views id me.0 log at (λ log. log.ended) refl);
          room = omega arith;
          whole = same s.views id me.0 log at (λ log. log.seats) refl ∙ whole;
          fits = fits;
          parts = fits_set size s.views id (new s.views id me.0 log at) kept.parts (part_with log (omega arith) refl part.ended part);
        },
        record { slots = refl; drawn = λ in_jobs. (ap (λ (k : ℕ). record me.0 { log = with_drawn me.0.log k }) (sym found), omega arith); ended = λ past. absurd (omega arith) },
      ))
      (λ (past : size.jobs ≤ word0).
      let log : Log = with_end me.0.log in (
        new s.views id me.0 log at,
        keeps,
        tt,
        record {
          word0 = word0 + 1;
          word1 = word1;
          words = words;
          draws = draws_none size.jobs word0 word1 all (tally (logs (after s.views id me.0 log at))) kept.draws past
              (λ number. same s.views id me.0 log at (λ log. times number log.drawn) refl)
              (λ number. same s.views id me.0 log at (λ log. times number log.noted) refl) (λ number. same s.views id me.0 log at (λ log. times number log.seen) refl)
              (same s.views id me.0 log at (λ log. length log.drawn) refl) (more s.views id me.0 log at (λ log. log.ended) 1 (omega arith));
          room = let e = same s.views id me.0 log at (λ log. length log.drawn) refl in omega arith;
          whole = same s.views id me.0 log at (λ log. log.seats) refl ∙ whole;
          fits = fits;
          parts = fits_set size s.views id (new s.views id me.0 log at) kept.parts (part_with log (omega arith) refl (omega arith) part);
        },
        record { slots = refl; drawn = λ in_jobs. absurd (omega arith); ended = λ ends. refl },
      ))
      (cases_lt word0 size.jobs)

  pub note_allows : (number : ℕ) → me.0.log.seats ≡ 1 → 0 < times number me.0.log.drawn → Allows Kept slots id me 1 (λ n. min n number) (λ found next. IsNote number me next)
  note_allows number one drew s kept homes at small =
      let word0 : ℕ = kept.word0 in
      let word1 : ℕ = kept.word1 in
      let all : Tally = tally (logs s.views) in
      let part : IsPart size me.0 = kept.parts id me.0 at in
      let log : Log = with_noted me.0.log number in
      let mine : times number me.0.log.drawn ≤ all.drawn number = total_part (λ log. times number log.drawn) s.views id me.0 at in
      let entries = same s.views id me.0 log at (λ log. length log.drawn) refl in
      let room : all.entries ≤ size.jobs = kept.room in (
        new s.views id me.0 log at,
        keeps,
        tt,
        record {
          word0 = word0;
          word1 = min word1 number;
          words = ap (λ (ws : List ℕ). set ws 1 (min (get_or ws 1 0) number)) kept.words;
          draws = notes_number size.jobs word0 word1 all (tally (logs (after s.views id me.0 log at))) number kept.draws (omega arith)
              (λ other. same s.views id me.0 log at (λ log. times other log.drawn) refl)
              (λ other. more s.views id me.0 log at (λ log. times other log.noted) (one_if (number == other)) (times_push other number me.0.log.noted))
              (λ other. same s.views id me.0 log at (λ log. times other log.seen) refl) entries (same s.views id me.0 log at (λ log. log.ended) refl);
          room = omega arith;
          whole = same s.views id me.0 log at (λ log. log.seats) refl ∙ kept.whole;
          fits = kept.fits;
          parts = fits_set size s.views id (new s.views id me.0 log at) kept.parts (part_with log (omega arith) refl part.ended part);
        },
        record { slots = refl; noted = refl },
      )

  pub look_allows : me.0.log.seats ≡ 1 → Allows Kept slots id me 1 (λ n. n) (IsLook me)
  look_allows one s kept homes at small =
      let word0 : ℕ = kept.word0 in
      let word1 : ℕ = kept.word1 in
      let all : Tally = tally (logs s.views) in
      let draws : AreDraws size.jobs word0 word1 all = kept.draws in
      let part : IsPart size me.0 = kept.parts id me.0 at in
      let size_is : me.0.size ≡ size = part.size_is (omega arith) in
      let jobs_is : me.0.size.jobs ≡ size.jobs = ap (λ (z : Size). z.jobs) size_is in
      let found : get_or s.words 1 0 ≡ word1 = ap (λ (ws : List ℕ). get_or ws 1 0) kept.words in
      let words : set s.words 1 (get_or s.words 1 0) ≡ word0 ∷ word1 ∷ [] = ap (λ (ws : List ℕ). set ws 1 (get_or ws 1 0)) kept.words in
      let noted = λ (number : ℕ) (was : 0 < times number me.0.log.noted). let e = total_part (λ log. times number log.noted) s.views id me.0 at in let any : 0 < all.noted number = omega arith in any in
      let seen = λ (number : ℕ) (was : 0 < times number me.0.log.seen). let e = total_part (λ log. times number log.seen) s.views id me.0 at in let any : 0 < all.seen number = omega arith in draws.seen_noted number any in
      let past_none = λ (past : size.jobs ≤ word1) (number : ℕ) (was : 0 < all.noted number).
      let a = draws.below_noted number was in let b = drawn_below size.jobs word0 word1 all draws number (draws.noted_drawn number was) in let no_more : word1 < word1 = omega arith in no_more in
      ⊎_elim
      (λ (below : word1 < size.jobs).
      let log : Log = with_seen me.0.log word1 in
      let entries = same s.views id me.0 log at (λ log. length log.drawn) refl in
      let room : all.entries ≤ size.jobs = kept.room in (
        new s.views id me.0 log at,
        keeps,
        tt,
        record {
          word0 = word0;
          word1 = word1;
          words = words;
          draws = sees_number size.jobs word0 word1 all (tally (logs (after s.views id me.0 log at))) draws below
              (λ other. same s.views id me.0 log at (λ log. times other log.drawn) refl) (λ other. same s.views id me.0 log at (λ log. times other log.noted) refl)
              (λ other. more s.views id me.0 log at (λ log. times other log.seen) (one_if (word1 == other)) (times_push other word1 me.0.log.seen)) entries (same s.views id me.0 log at (λ log. log.ended) refl);
          room = omega arith;
          whole = same s.views id me.0 log at (λ log. log.seats) refl ∙ kept.whole;
          fits = kept.fits;
          parts = fits_set size s.views id (new s.views id me.0 log at) kept.parts (part_with log (omega arith) refl part.ended part);
        },
        record {
          slots = refl;
          noted = λ number was. let e = draws.below_noted number (noted number was) in omega arith;
          seen = λ number was. let e = draws.below_noted number (seen number was) in omega arith;
          some = λ in_jobs. ap (λ (k : ℕ). record me.0 { log = with_seen me.0.log k }) (sym found);
          none = λ past. absurd (omega arith);
        },
      ))
      (λ (past : size.jobs ≤ word1). (
        me.0,
        keeps,
        tt,
        subst (λ (views : List SeatView). IsKept size (record { words = set s.words 1 (get_or s.words 1 0); homes = s.homes; views = views })) (sym (set_again s.views id me.0 at)) (record {
          word0 = word0;
          word1 = word1;
          words = words;
          draws = draws;
          room = kept.room;
          whole = kept.whole;
          fits = kept.fits;
          parts = kept.parts;
        }),
        record {
          slots = refl;
          noted = λ number was. let e = draws.below_noted number (noted number was) in omega arith;
          seen = λ number was. let e = draws.below_noted number (seen number was) in omega arith;
          some = λ in_jobs. absurd (omega arith);
          none = λ ends. (
            refl,
            empty_if me.0.log.noted (λ number was. let e = past_none past number (noted number was) in absurd (omega arith)),
            empty_if me.0.log.seen (λ number was. let e = past_none past number (seen number was) in absurd (omega arith)),
          );
        },
      ))
      (cases_lt word1 size.jobs)

-- a view is parted from another, and together they are what it was
part_sum : (views : List SeatView) (id : ℕ) (old left right : SeatView) → get_elem? views id ≡ some old → (count : Log → ℕ) → count left.log + count right.log ≡ count old.log
    → total count (logs (set views id left ++ right ∷ [])) ≡ total count (logs views)
part_sum views id old left right at count e = let a = total_push count (set views id left) right in let b = total_set count views id old left at in omega arith

pub parts_off : (S : Type 0) (size : Size) (id : ℕ) (view : SeatView) → view.size ≡ size → 0 < view.log.seats → view.log ≡ new_log view.log.seats
    → Splits {S = S} (IsKept size) id view (record view { log = new_log (view.log.seats - 1) }) (record view { log = new_log 1 })
parts_off S size id view size_is some_seat idle s kept at =
    let left : SeatView = record view { log = new_log (view.log.seats - 1) } in
    let right : SeatView = record view { log = new_log 1 } in
    let sum = part_sum s.views id view left right at in
    let drawn : view.log.drawn ≡ [] = ap (λ (l : Log). l.drawn) idle in
    let noted : view.log.noted ≡ [] = ap (λ (l : Log). l.noted) idle in
    let seen : view.log.seen ≡ [] = ap (λ (l : Log). l.seen) idle in
    let ended : view.log.ended ≡ 0 = ap (λ (l : Log). l.ended) idle in
    let entries : (tally (logs (set s.views id left ++ right ∷ []))).entries ≡ (tally (logs s.views)).entries = sum (λ log. length log.drawn) (rw drawn refl) in
    let room : (tally (logs s.views)).entries ≤ size.jobs = kept.room in
    record {
      word0 = kept.word0;
      word1 = kept.word1;
      words = kept.words;
      draws = draws_same size.jobs kept.word0 kept.word1 (tally (logs s.views)) (tally (logs (set s.views id left ++ right ∷ []))) kept.draws (record {
        drawn = λ number. sum (λ log. times number log.drawn) (times_nothing number view.log.drawn drawn);
        noted = λ number. sum (λ log. times number log.noted) (times_nothing number view.log.noted noted);
        seen = λ number. sum (λ log. times number log.seen) (times_nothing number view.log.seen seen);
        entries = entries;
        ended = sum (λ log. log.ended) (sym ended);
      });
      room = omega arith;
      whole = sum (λ log. log.seats) (omega arith) ∙ kept.whole;
      fits = kept.fits;
      parts = fits_push size (set s.views id left) right (fits_set size s.views id left kept.parts (record { size_is = λ any. size_is; ended = omega arith; idle = λ none. ap new_log none }))
          (record { size_is = λ any. size_is; ended = omega arith; idle = λ none. absurd (omega arith) });
    }

-- two views are made one, and what they did together stays
join_sum : (views : List SeatView) (id other : ℕ) (old left whole rest : SeatView) → get_elem? views id ≡ some old → get_elem? (set views id whole) other ≡ some left
    → (count : Log → ℕ) → count whole.log + count rest.log ≡ count old.log + count left.log → total count (logs (set (set views id whole) other rest)) ≡ total count (logs views)
join_sum views id other old left whole rest at there count e = let a = total_set count views id old whole at in let b = total_set count (set views id whole) other left rest there in omega arith

pub joins_on : (S : Type 0) (size : Size) (id other : ℕ) (view next : SeatView) → 0 < view.log.seats
    → Joins {S = S} (IsKept size) id view other next (record view { log = both view.log next.log }) spent
joins_on S size id other view next some_seat s kept at apart there =
    let whole : SeatView = record view { log = both view.log next.log } in
    let after : List SeatView = set (set s.views id whole) other spent in
    let sum = join_sum s.views id other view next whole spent at there in
    let mine : IsPart size view = kept.parts id view at in
    let before : get_elem? s.views other ≡ some next = ⊎_elim (λ (here : (other ≡ id) × (whole ≡ next)). absurd (apart here.0)) (λ (was : (other ≢ id) × (get_elem? s.views other ≡ some next)). was.1) (at_set s.views id other whole next there) in
    let theirs : IsPart size next = kept.parts other next before in
    let entries : (tally (logs after)).entries ≡ (tally (logs s.views)).entries = sum (λ log. length log.drawn) (let e = length-append view.log.drawn next.log.drawn in omega arith) in
    let room : (tally (logs s.views)).entries ≤ size.jobs = kept.room in
    let a = mine.ended in
    let b = theirs.ended in
    record {
      word0 = kept.word0;
      word1 = kept.word1;
      words = kept.words;
      draws = draws_same size.jobs kept.word0 kept.word1 (tally (logs s.views)) (tally (logs after)) kept.draws (record {
        drawn = λ number. sum (λ log. times number log.drawn) (times_two number view.log.drawn next.log.drawn);
        noted = λ number. sum (λ log. times number log.noted) (times_two number view.log.noted next.log.noted);
        seen = λ number. sum (λ log. times number log.seen) (times_two number view.log.seen next.log.seen);
        entries = entries;
        ended = sum (λ log. log.ended) (omega arith);
      });
      room = omega arith;
      whole = sum (λ log. log.seats) (omega arith) ∙ kept.whole;
      fits = kept.fits;
      parts = fits_set size (set s.views id whole) other spent
          (fits_set size s.views id whole kept.parts (record { size_is = λ any. mine.size_is some_seat; ended = omega arith; idle = λ none. absurd (omega arith) }))
          (record { size_is = λ any. absurd (omega arith); ended = omega arith; idle = λ none. refl });
    }

-- a row on which nobody has stepped
pub opens : (S : Type 0) (size : Size) → size.jobs ≤ 256 → size.seats ≤ 64 → IsKept {S = S} size (opening (0 ∷ size.jobs ∷ []) [] (record { size = size; log = new_log size.seats }))
opens S size jobs seats =
    let view : SeatView = record { size = size; log = new_log size.seats } in
    let all : Tally = tally (view.log ∷ []) in
    let entries : all.entries ≡ 0 = total_one (λ log. length log.drawn) view.log in
    let ended : all.ended ≡ 0 = total_one (λ log. log.ended) view.log in
    let noted = λ (number : ℕ). let e : all.noted number ≡ 0 = total_one (λ log. times number log.noted) view.log ∙ times_empty number in e in
    let seen = λ (number : ℕ). let e : all.seen number ≡ 0 = total_one (λ log. times number log.seen) view.log ∙ times_empty number in e in
    record {
      word0 = 0;
      word1 = size.jobs;
      words = refl;
      draws = record {
        counted = omega arith;
        each_once = λ number. total_one (λ log. times number log.drawn) view.log ∙ times_empty number ∙ sym (none_below number size.jobs);
        ended = λ was. absurd (omega arith);
        at_most = omega arith;
        is_least = λ other. absurd (other refl);
        below_noted = λ number was. let e = noted number in absurd (omega arith);
        noted_drawn = λ number was. let e = noted number in absurd (omega arith);
        seen_noted = λ number was. let e = seen number in absurd (omega arith);
      };
      room = omega arith;
      whole = total_one (λ log. log.seats) view.log;
      fits = (jobs, seats);
      parts = fits_one size view (record { size_is = λ any. refl; ended = omega arith; idle = λ none. ap new_log none });
    }

once_out : (number word jobs : ℕ) → number < jobs → jobs ≤ word → one_if (nat_lt number (min word jobs)) ≡ 1
once_out number word jobs below past = grind (arith, nat_tests)

-- all jobs are drawn once a seat has ended
pub drawn_out : (jobs word0 word1 : ℕ) (all : Tally) → AreDraws jobs word0 word1 all → IsDrawnOut jobs all
drawn_out jobs word0 word1 all draws ended number below = draws.each_once number ∙ once_out number word0 jobs below (draws.ended ended)

-- where one view is that of every seat, the others have done nothing
pub gathered : (S : Type 0) (size : Size) (s : State S SeatView) (id : ℕ) (view : SeatView) (all : Tally) (kept : IsKept size s) → get_elem? s.views id ≡ some view → view.log.seats ≡ size.seats → IsSame (tally (view.log ∷ [])) all
    → AreDraws size.jobs kept.word0 kept.word1 all
gathered S size s id view all kept at every same =
    let alone : SeatView = record view { log = new_log 0 } in
    let others : List SeatView = set s.views id alone in
    let fits : Fits size others = fits_set size s.views id alone kept.parts (record { size_is = λ any. absurd (omega arith); ended = omega arith; idle = λ none. refl }) in
    let none : total (λ log. log.seats) (logs others) ≡ 0 = let e = total_set (λ log. log.seats) s.views id view alone at in let w = kept.whole in omega arith in
    let only = λ (count : Log → ℕ) (nothing : count (new_log 0) ≡ 0).
    let rest : total count (logs others) ≡ 0 = total_none (λ log. log.seats) count others (λ place other there idle. ap count ((fits place other there).idle idle) ∙ nothing) none in
    let e = total_set count s.views id view alone at in
    let one = total_one count view.log in
    let is : total count (view.log ∷ []) ≡ total count (logs s.views) = omega arith in is in
    draws_same size.jobs kept.word0 kept.word1 (tally (logs s.views)) all kept.draws (record {
      drawn = λ number. sym (same.drawn number) ∙ only (λ log. times number log.drawn) (times_empty number);
      noted = λ number. sym (same.noted number) ∙ only (λ log. times number log.noted) (times_empty number);
      seen = λ number. sym (same.seen number) ∙ only (λ log. times number log.seen) (times_empty number);
      entries = sym same.entries ∙ only (λ log. length log.drawn) refl;
      ended = sym same.ended ∙ only (λ log. log.ended) refl;
    })

-- the sums of one more log taken from the end of a list
take_sum : (count : Log → ℕ) (whole last : Log) (rest : List Log) → count (both whole last) ≡ count whole + count last → total count (both whole last ∷ rest) ≡ total count (whole ∷ (rest ++ last ∷ []))
unfolding total
take_sum count whole last rest adds = let e = total_append count rest (last ∷ []) in let one = total_one count last in omega arith

pub takes_last : (whole last : Log) (rest : List Log) (all : Tally) → IsSame (tally (whole ∷ (rest ++ last ∷ []))) all → IsSame (tally (both whole last ∷ rest)) all
takes_last whole last rest all same = record {
  drawn = λ number. take_sum (λ log. times number log.drawn) whole last rest (times_append number whole.drawn last.drawn) ∙ same.drawn number;
  noted = λ number. take_sum (λ log. times number log.noted) whole last rest (times_append number whole.noted last.noted) ∙ same.noted number;
  seen = λ number. take_sum (λ log. times number log.seen) whole last rest (times_append number whole.seen last.seen) ∙ same.seen number;
  entries = take_sum (λ log. length log.drawn) whole last rest (length-append whole.drawn last.drawn) ∙ same.entries;
  ended = take_sum (λ log. log.ended) whole last rest refl ∙ same.ended;
}

-- the sums of the last log put first
first_sum : (count : Log → ℕ) (last : Log) (rest : List Log) → total count (last ∷ rest) ≡ total count (rest ++ last ∷ [])
unfolding total
first_sum count last rest = let e = total_append count rest (last ∷ []) in let one = total_one count last in omega arith

pub begins_last : (last : Log) (rest : List Log) → IsSame (tally (last ∷ rest)) (tally (rest ++ last ∷ []))
begins_last last rest = record {
  drawn = λ number. first_sum (λ log. times number log.drawn) last rest;
  noted = λ number. first_sum (λ log. times number log.noted) last rest;
  seen = λ number. first_sum (λ log. times number log.seen) last rest;
  entries = first_sum (λ log. length log.drawn) last rest;
  ended = first_sum (λ log. log.ended) last rest;
}
