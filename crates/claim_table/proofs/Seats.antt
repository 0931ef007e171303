-- What a seat keeps stays true of what it knows after each step.
use Rattle.std.proofs.Common.{◌≡◌, ◌≢◌, ℕ, ◌<◌, ◌≤◌, ⊎_elim, Bool, true, false, nat_lt, ◌==◌, List, [], ◌∷◌, ◌++◌, length, slice_index_or, set, replicate, sym, refl, ap, ◌∙◌, subst, arith, length-set}
use Rattle.std.proofs.lemmas.Bool.{cases_lt}
use Rattle.std.proofs.lemmas.Bool.Decides.{nat_tests}
use Rattle.std.proofs.lemmas.List.{get_or-set_other, get_or-replicate}
use Rattle.std.proofs.lemmas.Grind.{get_or-set_at}
use Rattle.std.proofs.lemmas.List.{length-replicate}
use mathlib.Core.Logic.{dite}
use native.Mathlib.Decide.{ℕ_discrete}
use Rattle.atomic_table.specs.Table.{Me}
use Rattle.claim_table.specs.declared.log.Log.{Log}
use Rattle.claim_table.specs.declared.seat_view.SeatView.{SeatView}
use Rattle.claim_table.specs.declared.job_set.TheConstants.{JOBS}
use Rattle.claim_table.specs.Logs.{times, one_if, new_log, with_drawn, with_end, with_noted, with_seen}
use Rattle.claim_table.specs.Seat.{AreMarks, IsSeat, Done, done, ascending, members}
use Rattle.claim_table.proofs.Lists.{filter_same}
use Rattle.claim_table.proofs.Totals.{times_push, times_empty}

nothing_marked : AreMarks (replicate JOBS false) []
unfolding times
nothing_marked number below = get_or-replicate JOBS number false false below

is_there : (k : ℕ) → 0 < k → true ≡ nat_lt 0 k
is_there k some = grind (arith, nat_tests)

one_here : (a b : ℕ) → a ≡ b → one_if (a == b) ≡ 1
one_here a b is = grind (arith, nat_tests)

none_here : (a b : ℕ) → b ≢ a → one_if (a == b) ≡ 0
none_here a b other = grind (arith, nat_tests)

-- a number is marked as it is put after the list
marked : (marks : List Bool) (numbers : List ℕ) (new : ℕ) → length marks ≡ JOBS → AreMarks marks numbers → AreMarks (set marks new true) (numbers ++ new ∷ [])
marked marks numbers new long are number below =
    let more = times_push number new numbers in
    dite (ℕ_discrete number new)
    (λ (here : number ≡ new). let one = one_here new number (sym here) in get_or-set_at marks new number true false here (omega arith) ∙ is_there (times number (numbers ++ new ∷ [])) (omega arith))
    (λ (other : number ≢ new). let none = none_here new number other in let e : times number numbers ≡ times number (numbers ++ new ∷ []) = omega arith in
    get_or-set_other marks new number true false other ∙ are number below ∙ ap (λ (k : ℕ). nat_lt 0 k) e)

pub seat_new : {S : Type 0} (me : Me S SeatView) (own : ℕ) → me.1 ≡ [] → me.0.log ≡ new_log 1 → own < me.0.size.seats → IsSeat me own [] (replicate JOBS false) (replicate JOBS false) false
seat_new me own slots is below = record {
  slots = slots;
  numbered = below;
  one = ap (λ (l : Log). l.seats) is;
  drawn_is = ap (λ (l : Log). l.drawn) (sym is);
  noted_is = λ number below. nothing_marked number below ∙ ap (λ (l : Log). nat_lt 0 (times number l.noted)) (sym is);
  seen_is = λ number below. nothing_marked number below ∙ ap (λ (l : Log). nat_lt 0 (times number l.seen)) (sym is);
  ended_is = ap (λ (l : Log). l.ended) is;
  notes_drawn = λ number noted_it. let e = ap (λ (l : Log). times number l.noted) is in let none = times_empty number in absurd (omega arith);
  below = λ number drew_it. let e = ap (λ (l : Log). times number l.drawn) is in let none = times_empty number in absurd (omega arith);
  room = (length-replicate JOBS false, length-replicate JOBS false);
}

module _ {S : Type 0} {own : ℕ} (me new : Me S SeatView) (drawn : List ℕ) (noted seen : List Bool) (ended : Bool) (was : IsSeat me own drawn noted seen ended) (slots : new.1 ≡ me.1) where
  with_log : (log : Log) → new.0 ≡ record me.0 { log = log } → (drawn' : List ℕ) (noted' seen' : List Bool) (ended' : Bool)
      → IsSeat {S = S} (record me.0 { log = log }, me.1) own drawn' noted' seen' ended' → IsSeat new own drawn' noted' seen' ended'
  with_log log is drawn' noted' seen' ended' fits = subst (λ (m : Me S SeatView). IsSeat m own drawn' noted' seen' ended') (λ i. (sym is i, sym slots i)) fits

  pub seat_drew : (number : ℕ) → new.0 ≡ record me.0 { log = with_drawn me.0.log number } → number < me.0.size.jobs → IsSeat new own (drawn ++ number ∷ []) noted seen ended
  seat_drew number is below = with_log (with_drawn me.0.log number) is _ _ _ _ (record {
    slots = was.slots;
    one = was.one;
    numbered = was.numbered;
    drawn_is = ap (λ (xs : List ℕ). xs ++ number ∷ []) was.drawn_is;
    noted_is = was.noted_is;
    seen_is = was.seen_is;
    ended_is = was.ended_is;
    notes_drawn = λ other noted_it. let e = times_push other number me.0.log.drawn in let h = was.notes_drawn other noted_it in omega arith;
    below = λ other drew_it. let e = times_push other number me.0.log.drawn in ⊎_elim (λ (before : 0 < times other me.0.log.drawn). was.below other before)
        (λ (none : times other me.0.log.drawn ≤ 0). let is_it : number ≡ other = grind (arith, nat_tests) in omega arith) (cases_lt 0 (times other me.0.log.drawn));
    room = was.room;
  })

  pub seat_ended : new.0 ≡ record me.0 { log = with_end me.0.log } → IsSeat new own drawn noted seen true
  seat_ended is = with_log (with_end me.0.log) is _ _ _ _ (record {
    slots = was.slots;
    one = was.one;
    numbered = was.numbered;
    drawn_is = was.drawn_is;
    noted_is = was.noted_is;
    seen_is = was.seen_is;
    ended_is = refl;
    notes_drawn = was.notes_drawn;
    below = was.below;
    room = was.room;
  })

  pub seat_noted : (number : ℕ) → new.0 ≡ record me.0 { log = with_noted me.0.log number } → 0 < times number me.0.log.drawn → IsSeat new own drawn (set noted number true) seen ended
  seat_noted number is drew_it = with_log (with_noted me.0.log number) is _ _ _ _ (record {
    slots = was.slots;
    one = was.one;
    numbered = was.numbered;
    drawn_is = was.drawn_is;
    noted_is = marked noted me.0.log.noted number was.room.0 was.noted_is;
    seen_is = was.seen_is;
    ended_is = was.ended_is;
    notes_drawn = λ other noted_it. let e = times_push other number me.0.log.noted in ⊎_elim (λ (before : 0 < times other me.0.log.noted). was.notes_drawn other before)
        (λ (none : times other me.0.log.noted ≤ 0). let is_it : number ≡ other = grind (arith, nat_tests) in subst (λ (k : ℕ). 0 < times k me.0.log.drawn) is_it drew_it) (cases_lt 0 (times other me.0.log.noted));
    below = was.below;
    room = (length-set noted number true ∙ was.room.0, was.room.1);
  })

  pub seat_saw : (number : ℕ) → new.0 ≡ record me.0 { log = with_seen me.0.log number } → IsSeat new own drawn noted (set seen number true) ended
  seat_saw number is = with_log (with_seen me.0.log number) is _ _ _ _ (record {
    slots = was.slots;
    one = was.one;
    numbered = was.numbered;
    drawn_is = was.drawn_is;
    noted_is = was.noted_is;
    seen_is = marked seen me.0.log.seen number was.room.1 was.seen_is;
    ended_is = was.ended_is;
    notes_drawn = was.notes_drawn;
    below = was.below;
    room = (was.room.0, length-set seen number true ∙ was.room.1);
  })

-- what is marked is what stands in the list
listed : (marks : List Bool) (numbers : List ℕ) → AreMarks marks numbers → members JOBS marks ≡ ascending numbers
unfolding ascending members
listed marks numbers are = filter_same (λ number. slice_index_or marks number false) (λ number. nat_lt 0 (times number numbers)) 0 JOBS (λ number below. are number below)

abbrev typed : Done → Done
typed what = what

pub seat_done : {S : Type 0} {own : ℕ} (me : Me S SeatView) (drawn : List ℕ) (noted seen : List Bool) (ended : Bool) → IsSeat me own drawn noted seen ended
    → typed (record { drawn = drawn; noted = members JOBS noted; seen = members JOBS seen; ended = ended }) ≡ done me.0.log
seat_done me drawn noted seen ended is = rw (is.drawn_is, listed noted me.0.log.noted is.noted_is, listed seen me.0.log.seen is.seen_is, is.ended_is) (by ended)
  where
    by : (b : Bool) → typed (record { drawn = me.0.log.drawn; noted = ascending me.0.log.noted; seen = ascending me.0.log.seen; ended = b }) ≡ record { drawn = me.0.log.drawn; noted = ascending me.0.log.noted; seen = ascending me.0.log.seen; ended = nat_lt 0 (one_if b) }
    by true = refl
    by false = refl
