-- The entries of a page, as one of them changes or one comes.
use Rattle.std.proofs.Common.{◌≡◌, ℕ, zero, suc, ◌+◌, ◌-◌, ◌≤◌, ◌<◌, Bool, true, false, not, ◌&&◌, cond, List, [], ◌∷◌, ◌++◌, length, map, filter, get_or, set, refl, sym, ◌∙◌, ap, subst, arith, ⊎_elim, inl, inr}
use Rattle.std.specs.Prelude.{◌⊎◌, ◌≢◌, ◌==◌, Contains}
use Rattle.std.proofs.lemmas.Bool.{cases_lt, cases_eq, eq-eqb, ne_eqb}
use Rattle.std.proofs.lemmas.List.{get_or-set_same, get_or-set_other, get_or_default, length-set, length_push}
use Rattle.std.proofs.lemmas.List.Elements.{Contains-append_left, Contains-push}
use Rattle.races.specs.Bytes.{has}
use Rattle.races.specs.Linked.{AreLinked, GivesWay, IsAt, IsCleared, IsErased, IsFirst, latest_in, left_of}
use Rattle.races.specs.Steps.{IsSameAuthor, Step}
use Rattle.races.specs.Words.{IsFinding, IsKept}
use Rattle.races.specs.declared.byte_set.ByteSet.{ByteSet}
use Rattle.races.specs.declared.clocks.Clocks.{Clocks}
use Rattle.races.specs.declared.kept_access.KeptAccess.{KeptAccess}
use Rattle.races.specs.declared.found_race.FoundRace.{FoundRace as Race}
use Rattle.races.specs.declared.latest.Latest.{Latest}
use Rattle.races.specs.declared.site.Access.{Access}
use Rattle.races.proofs.Clocked.{none_contained}
use Rattle.races.proofs.Kept.{contains_cases, contains_head, contains_tail}

-- ---- entries by their indices

pub same_at : (entries : List KeptAccess) (index : ℕ) (one other : KeptAccess) → IsAt entries index one → IsAt entries index other → one ≡ other
same_at entries index one other (inside, one_is) (there, other_is) = sym one_is ∙ get_or_default entries index one other inside ∙ other_is

pub some_at : (entries : List KeptAccess) (index : ℕ) (default : KeptAccess) → index < length entries → IsAt entries index (get_or entries index default)
some_at entries index default inside = (inside, get_or_default entries index (get_or entries index default) default inside)

pub set_at : (entries : List KeptAccess) (index : ℕ) (now : KeptAccess) → index < length entries → IsAt (set entries index now) index now
set_at entries index now inside = (subst (λ (n : ℕ). index < n) (sym (length-set entries index now)) inside, get_or-set_same entries index now now inside)

-- an entry after a change is the new one, or one that was there
pub set_at_cases : (entries : List KeptAccess) (index : ℕ) (now : KeptAccess) (at : ℕ) (entry : KeptAccess) → index < length entries → IsAt (set entries index now) at entry → ((at ≡ index) × (entry ≡ now)) ⊎ ((at ≢ index) × IsAt entries at entry)
set_at_cases entries index now at entry inside (there, is) = ⊎_elim
    (λ same. inl (same, same_at (set entries index now) index entry now (subst (λ (n : ℕ). IsAt (set entries index now) n entry) same (there, is)) (set_at entries index now inside)))
    (λ apart. inr (apart, (subst (λ (n : ℕ). at < n) (length-set entries index now) there, sym (get_or-set_other entries index at now entry apart) ∙ is)))
    (cases_eq at index)

-- one that was there is there, unless it was the one that changed
pub set_at_kept : (entries : List KeptAccess) (index : ℕ) (now : KeptAccess) (at : ℕ) (entry : KeptAccess) → at ≢ index → IsAt entries at entry → IsAt (set entries index now) at entry
set_at_kept entries index now at entry apart (there, is) = (subst (λ (n : ℕ). at < n) (sym (length-set entries index now)) there, get_or-set_other entries index at now entry apart ∙ is)

get_push : (entries : List KeptAccess) (new : KeptAccess) (at : ℕ) (default : KeptAccess) → at < length entries → get_or (entries ++ new ∷ []) at default ≡ get_or entries at default
get_push [] new at default inside = absurd (omega arith)
get_push (first ∷ entries) new zero default inside = refl
get_push (first ∷ entries) new (suc at) default inside = get_push entries new at default (omega arith)

get_last : (entries : List KeptAccess) (new default : KeptAccess) → get_or (entries ++ new ∷ []) (length entries) default ≡ new
get_last [] new default = refl
get_last (first ∷ entries) new default = get_last entries new default

pub push_at_kept : (entries : List KeptAccess) (new : KeptAccess) (at : ℕ) (entry : KeptAccess) → IsAt entries at entry → IsAt (entries ++ new ∷ []) at entry
push_at_kept entries new at entry (there, is) = let long = length_push entries new in (omega arith, get_push entries new at entry there ∙ is)

pub push_at_last : (entries : List KeptAccess) (new : KeptAccess) → IsAt (entries ++ new ∷ []) (length entries) new
push_at_last entries new = let long = length_push entries new in (omega arith, get_last entries new new)

pub push_at_cases : (entries : List KeptAccess) (new : KeptAccess) (at : ℕ) (entry : KeptAccess) → IsAt (entries ++ new ∷ []) at entry → ((at ≡ length entries) × (entry ≡ new)) ⊎ IsAt entries at entry
push_at_cases entries new at entry (there, is) =
    let long = length_push entries new in
    ⊎_elim
    (λ before. inr (before, sym (get_push entries new at entry before) ∙ is))
    (λ late.
    let last : at ≡ length entries = omega arith in
    inl (last, sym is ∙ ap (λ (n : ℕ). get_or (entries ++ new ∷ []) n entry) last ∙ get_last entries new entry))
    (cases_lt at (length entries))

-- ---- what is kept of a word

in_head : (entry : KeptAccess) (entries : List KeptAccess) (place : ℕ) → entry.place ≡ place → latest_in (entry ∷ entries) place ≡ entry.latest ∷ latest_in entries place
in_head entry entries place is = ap (λ (b : Bool). map (λ one. one.latest) (cond b (entry ∷ filter (λ one. one.place == place) entries) (filter (λ one. one.place == place) entries))) (eq-eqb entry.place place is)

not_head : (entry : KeptAccess) (entries : List KeptAccess) (place : ℕ) → (entry.place ≡ place → ⊥) → latest_in (entry ∷ entries) place ≡ latest_in entries place
not_head entry entries place apart = ap (λ (b : Bool). map (λ one. one.latest) (cond b (entry ∷ filter (λ one. one.place == place) entries) (filter (λ one. one.place == place) entries))) (ne_eqb entry.place place apart)

-- an entry of the word is among what is kept of it
pub in_latest : (entries : List KeptAccess) (index : ℕ) (entry : KeptAccess) (place : ℕ) → IsAt entries index entry → entry.place ≡ place → Contains (latest_in entries place) entry.latest
in_latest [] index entry place (inside, is) of = absurd (omega arith)
in_latest (first ∷ entries) zero entry place (inside, is) of =
    subst (λ (all : List Latest). Contains all entry.latest) (sym (in_head first entries place (ap (λ (one : KeptAccess). one.place) is ∙ of)))
    (subst (λ (one : Latest). Contains (one ∷ latest_in entries place) entry.latest) (ap (λ (one : KeptAccess). one.latest) (sym is)) (contains_head entry.latest (latest_in entries place)))
in_latest (first ∷ entries) (suc index) entry place (inside, is) of =
    let later = in_latest entries index entry place (omega arith, is) of in
    ⊎_elim
    (λ same. subst (λ (all : List Latest). Contains all entry.latest) (sym (in_head first entries place same)) (contains_tail first.latest (latest_in entries place) entry.latest later))
    (λ apart. subst (λ (all : List Latest). Contains all entry.latest) (sym (not_head first entries place apart)) later)
    (cases_eq first.place place)

-- what is kept of a word is in an entry of it
pub record Found (entries : List KeptAccess) (place : ℕ) (past : Latest) : Type 0 where
  pub index : ℕ
  pub entry : KeptAccess
  pub is_at : IsAt entries index entry
  pub of : entry.place ≡ place
  pub is : entry.latest ≡ past

one_later : (first : KeptAccess) (entries : List KeptAccess) (place : ℕ) (past : Latest) → Found entries place past → Found (first ∷ entries) place past
one_later first entries place past found = let there = found.is_at.0 in record {
  index = suc found.index;
  entry = found.entry;
  is_at = (omega arith, found.is_at.1);
  of = found.of;
  is = found.is;
}

pub from_latest : (entries : List KeptAccess) (place : ℕ) (past : Latest) → Contains (latest_in entries place) past → Found entries place past
from_latest [] place past among = absurd (none_contained past among)
from_latest (first ∷ entries) place past among = ⊎_elim
    (λ same. ⊎_elim
    (λ head. record { index = 0; entry = first; is_at = (omega arith, refl); of = same; is = head })
    (λ later. one_later first entries place past (from_latest entries place past later))
    (contains_cases first.latest (latest_in entries place) past (subst (λ (all : List Latest). Contains all past) (in_head first entries place same) among)))
    (λ apart. one_later first entries place past (from_latest entries place past (subst (λ (all : List Latest). Contains all past) (not_head first entries place apart) among)))
    (cases_eq first.place place)

-- a changed entry changes nothing of the words of which it is not, and none if its access stays
pub latest_set : (entries : List KeptAccess) (index : ℕ) (was now : KeptAccess) (place : ℕ) → IsAt entries index was → now.place ≡ was.place → (was.place ≡ place → now.latest ≡ was.latest) → latest_in (set entries index now) place ≡ latest_in entries place
latest_set [] index was now place (inside, is) of same = refl
latest_set (first ∷ entries) zero was now place (inside, is) of same = ⊎_elim
    (λ here.
    in_head now entries place (of ∙ ap (λ (one : KeptAccess). one.place) (sym is) ∙ here)
    ∙ ap (λ (one : Latest). one ∷ latest_in entries place) (same (ap (λ (one : KeptAccess). one.place) (sym is) ∙ here) ∙ ap (λ (one : KeptAccess). one.latest) (sym is))
    ∙ sym (in_head first entries place here))
    (λ apart. not_head now entries place (λ here. apart (ap (λ (one : KeptAccess). one.place) is ∙ sym of ∙ here)) ∙ sym (not_head first entries place apart))
    (cases_eq first.place place)
latest_set (first ∷ entries) (suc index) was now place (inside, is) of same =
    let later = latest_set entries index was now place (omega arith, is) of same in
    ⊎_elim
    (λ here. in_head first (set entries index now) place here ∙ ap (λ (all : List Latest). first.latest ∷ all) later ∙ sym (in_head first entries place here))
    (λ apart. not_head first (set entries index now) place apart ∙ later ∙ sym (not_head first entries place apart))
    (cases_eq first.place place)

-- a new entry is of one word alone
pub latest_push : (entries : List KeptAccess) (new : KeptAccess) (place : ℕ) → (new.place ≡ place → ⊥) → latest_in (entries ++ new ∷ []) place ≡ latest_in entries place
latest_push [] new place apart = not_head new [] place apart
latest_push (first ∷ entries) new place apart =
    let later = latest_push entries new place apart in
    ⊎_elim
    (λ here. in_head first (entries ++ new ∷ []) place here ∙ ap (λ (all : List Latest). first.latest ∷ all) later ∙ sym (in_head first entries place here))
    (λ other. not_head first (entries ++ new ∷ []) place other ∙ later ∙ sym (not_head first entries place other))
    (cases_eq first.place place)

-- ---- the links

no_entry : KeptAccess
no_entry = record {
  latest = record { site = record { turn = 0; instruction = 0; pc = 0; thread = 0; is_store = false; is_atomic = false }; bytes = record { first = false; second = false; third = false; fourth = false }; step = 0 };
  place = 0;
  next = 0;
}

-- the entry of a number
abbrev HasEntry : (entries : List KeptAccess) (from place number : ℕ) → Type 0
HasEntry entries from place number = (entry : KeptAccess) × IsAt entries (number - 1) entry × (entry.place ≡ place) × (from < number)

there_of : (entries : List KeptAccess) (from place number : ℕ) → IsFirst entries from place number → number ≢ 0 → HasEntry entries from place number
there_of entries from place number first some =
    let bound = first.inside some in
    let late = first.late some in
    let is_at = some_at entries (number - 1) no_entry (omega arith) in
    (get_or entries (number - 1) no_entry, is_at, first.of (get_or entries (number - 1) no_entry) some is_at, late)

first_by : (entries : List KeptAccess) (from place number : ℕ) → (number ≢ 0 → HasEntry entries from place number)
    → ((index : ℕ) (entry : KeptAccess) → from ≤ index → IsAt entries index entry → entry.place ≡ place → (number ≢ 0) × (number ≤ index + 1)) → IsFirst entries from place number
first_by entries from place number there first = record {
  inside = λ some. let had = there some in let inside = had.1.0 in let late = had.3 in omega arith;
  late = λ some. (there some).3;
  of = λ entry some is_at. let had = there some in ap (λ (one : KeptAccess). one.place) (same_at entries (number - 1) entry had.0 is_at had.1) ∙ had.2;
  first = first;
}

-- an entry changes, but for its place and its link
first_set : (entries : List KeptAccess) (index : ℕ) (was now : KeptAccess) (from place number : ℕ) → IsAt entries index was → now.place ≡ was.place → IsFirst entries from place number → IsFirst (set entries index now) from place number
first_set entries index was now from place number is_at of first = first_by (set entries index now) from place number
    (λ some.
    let had = there_of entries from place number first some in
    ⊎_elim
    (λ same. (
      now,
      subst (λ (n : ℕ). IsAt (set entries index now) n now) (sym same) (set_at entries index now is_at.0),
      of ∙ ap (λ (one : KeptAccess). one.place) (same_at entries index was had.0 is_at (subst (λ (n : ℕ). IsAt entries n had.0) same had.1)) ∙ had.2,
      had.3,
    ))
    (λ apart. (had.0, set_at_kept entries index now (number - 1) had.0 apart had.1, had.2, had.3))
    (cases_eq (number - 1) index))
    (λ at entry after there is. ⊎_elim
    (λ same. first.first at was after (subst (λ (n : ℕ). IsAt entries n was) (sym same.0) is_at) (sym of ∙ ap (λ (one : KeptAccess). one.place) (sym same.1) ∙ is))
    (λ other. first.first at entry after other.1 is)
    (set_at_cases entries index now at entry is_at.0 there))

pub linked_set : (firsts : List ℕ) (entries : List KeptAccess) (index : ℕ) (was now : KeptAccess) → IsAt entries index was → now.place ≡ was.place → now.next ≡ was.next → AreLinked firsts entries → AreLinked firsts (set entries index now)
linked_set firsts entries index was now is_at of next linked = record {
  begin = λ place. first_set entries index was now 0 place (get_or firsts place 0) is_at of (linked.begin place);
  go_on = λ at entry there. ⊎_elim
      (λ same.
      let was_first : IsFirst entries (at + 1) was.place was.next = linked.go_on at was (subst (λ (n : ℕ). IsAt entries n was) (sym same.0) is_at) in
      let place_is : was.place ≡ entry.place = sym of ∙ ap (λ (one : KeptAccess). one.place) (sym same.1) in
      let next_is : was.next ≡ entry.next = sym next ∙ ap (λ (one : KeptAccess). one.next) (sym same.1) in
      first_set entries index was now (at + 1) entry.place entry.next is_at of (subst (λ (p : ℕ). IsFirst entries (at + 1) p entry.next) place_is (subst (λ (n : ℕ). IsFirst entries (at + 1) was.place n) next_is was_first)))
      (λ other. first_set entries index was now (at + 1) entry.place entry.next is_at of (linked.go_on at entry other.1))
      (set_at_cases entries index now at entry is_at.0 there);
}

-- an entry comes: of another word, or the word has a first one from there on already, or now it has
first_push : (entries : List KeptAccess) (new : KeptAccess) (from place number : ℕ) → (new.place ≡ place → ⊥) ⊎ (number ≢ 0) → IsFirst entries from place number → IsFirst (entries ++ new ∷ []) from place number
first_push entries new from place number either first = first_by (entries ++ new ∷ []) from place number
    (λ some. let had = there_of entries from place number first some in (had.0, push_at_kept entries new (number - 1) had.0 had.1, had.2, had.3))
    (λ at entry after there is. ⊎_elim
    (λ last. ⊎_elim
    (λ apart. absurd (apart (ap (λ (one : KeptAccess). one.place) (sym last.1) ∙ is)))
    (λ some. let inside = first.inside some in let at_end = last.0 in (some, omega arith))
    either)
    (λ before. first.first at entry after before is)
    (push_at_cases entries new at entry there))

first_new : (entries : List KeptAccess) (new : KeptAccess) (from place : ℕ) → from ≤ length entries → new.place ≡ place → IsFirst entries from place 0 → IsFirst (entries ++ new ∷ []) from place (length entries + 1)
first_new entries new from place early of first = first_by (entries ++ new ∷ []) from place (length entries + 1)
    (λ some. (new, subst (λ (n : ℕ). IsAt (entries ++ new ∷ []) n new) (omega arith) (push_at_last entries new), of, omega arith))
    (λ at entry after there is. ⊎_elim
    (λ last. let at_end = last.0 in (λ none. absurd (omega arith), omega arith))
    (λ before. absurd ((first.first at entry after before is).0 refl))
    (push_at_cases entries new at entry there))

-- the last entry has no next one
last_first : (entries : List KeptAccess) (new : KeptAccess) (from place : ℕ) → length entries < from → IsFirst (entries ++ new ∷ []) from place 0
last_first entries new from place late = first_by (entries ++ new ∷ []) from place 0
    (λ some. absurd (some refl))
    (λ at entry after there is. let long = length_push entries new in let inside = there.0 in absurd (omega arith))

get_set_zero : (firsts : List ℕ) (place number : ℕ) (other : ℕ) → (place ≡ other → ⊥) → get_or (set firsts place number) other 0 ≡ get_or firsts other 0
get_set_zero firsts place number other apart = get_or-set_other firsts place other number 0 (λ same. apart (sym same))

-- an entry comes as the first one of its word
pub linked_first : (firsts : List ℕ) (entries : List KeptAccess) (new : KeptAccess) (place : ℕ) → place < length firsts → get_or firsts place 0 ≡ 0 → new.place ≡ place → new.next ≡ 0 → AreLinked firsts entries
    → AreLinked (set firsts place (length entries + 1)) (entries ++ new ∷ [])
linked_first firsts entries new place inside none of next linked = record {
  begin = λ other. ⊎_elim
      (λ same.
      let at_place = first_new entries new 0 place (omega arith) of (subst (λ (n : ℕ). IsFirst entries 0 place n) none (linked.begin place)) in
      subst (λ (p : ℕ). IsFirst (entries ++ new ∷ []) 0 p (get_or (set firsts place (length entries + 1)) p 0)) same
      (subst (λ (n : ℕ). IsFirst (entries ++ new ∷ []) 0 place n) (sym (get_or-set_same firsts place (length entries + 1) 0 inside)) at_place))
      (λ apart.
      subst (λ (n : ℕ). IsFirst (entries ++ new ∷ []) 0 other n) (sym (get_set_zero firsts place (length entries + 1) other apart))
      (first_push entries new 0 other (get_or firsts other 0) (inl (λ same. apart (sym of ∙ same))) (linked.begin other)))
      (cases_eq place other);
  go_on = λ at entry there. ⊎_elim
      (λ last.
      let at_end = last.0 in
      subst (λ (n : ℕ). IsFirst (entries ++ new ∷ []) (at + 1) entry.place n) (sym next ∙ ap (λ (one : KeptAccess). one.next) (sym last.1)) (last_first entries new (at + 1) entry.place (omega arith)))
      (λ before. ⊎_elim
      (λ same. absurd (((linked.begin place).first at entry (omega arith) before (sym same)).0 none))
      (λ apart. first_push entries new (at + 1) entry.place entry.next (inl (λ same. apart (sym of ∙ same))) (linked.go_on at entry before))
      (cases_eq place entry.place))
      (push_at_cases entries new at entry there);
}

-- an entry comes after the last one of its word
pub linked_after : (firsts : List ℕ) (entries : List KeptAccess) (index : ℕ) (last now new : KeptAccess) → IsAt entries index last → last.next ≡ 0 → new.place ≡ last.place → new.next ≡ 0 → now.place ≡ last.place → now.next ≡ length entries + 1
    → AreLinked firsts entries → AreLinked firsts (set (entries ++ new ∷ []) index now)
linked_after firsts entries index last now new is_at end of next now_of now_next linked = record {
  begin = λ place. first_set more index last now 0 place (get_or firsts place 0) at_more now_of (⊎_elim
      (λ same. first_push entries new 0 place (get_or firsts place 0) (inr ((linked.begin place).first index last (omega arith) is_at same).0) (linked.begin place))
      (λ apart. first_push entries new 0 place (get_or firsts place 0) (inl (λ same. apart (sym of ∙ same))) (linked.begin place))
      (cases_eq last.place place));
  go_on = λ at entry there. ⊎_elim
      (λ same.
      let here : at ≡ index = same.0 in
      let inside = is_at.0 in
      let own : IsFirst more (at + 1) last.place (length entries + 1) =
      first_new entries new (at + 1) last.place (omega arith) of (subst (λ (n : ℕ). IsFirst entries (at + 1) last.place n) end (linked.go_on at last (subst (λ (n : ℕ). IsAt entries n last) (sym here) is_at))) in
      let place_is : last.place ≡ entry.place = sym now_of ∙ ap (λ (one : KeptAccess). one.place) (sym same.1) in
      let next_is : length entries + 1 ≡ entry.next = sym now_next ∙ ap (λ (one : KeptAccess). one.next) (sym same.1) in
      first_set more index last now (at + 1) entry.place entry.next at_more now_of (subst (λ (p : ℕ). IsFirst more (at + 1) p entry.next) place_is (subst (λ (n : ℕ). IsFirst more (at + 1) last.place n) next_is own)))
      (λ other. first_set more index last now (at + 1) entry.place entry.next at_more now_of (in_more at entry other.0 other.1))
      (set_at_cases more index now at entry at_more.0 there);
}
  where
    more : List KeptAccess
    more = entries ++ new ∷ []

    at_more : IsAt more index last
    at_more = push_at_kept entries new index last is_at

    -- an entry of the word that isn't the last one has a next one
    has_next : (at : ℕ) (entry : KeptAccess) → at ≢ index → IsAt entries at entry → entry.place ≡ last.place → entry.next ≢ 0
    has_next at entry apart there same = ⊎_elim
        (λ before. ((linked.go_on at entry there).first index last (omega arith) is_at (sym same)).0)
        (λ late. absurd (((linked.go_on index last is_at).first at entry (omega arith) there same).0 end))
        (cases_lt at index)

    in_more : (at : ℕ) (entry : KeptAccess) → at ≢ index → IsAt more at entry → IsFirst more (at + 1) entry.place entry.next
    in_more at entry apart there = ⊎_elim
        (λ new_is.
        let at_end = new_is.0 in
        subst (λ (n : ℕ). IsFirst more (at + 1) entry.place n) (sym next ∙ ap (λ (one : KeptAccess). one.next) (sym new_is.1)) (last_first entries new (at + 1) entry.place (omega arith)))
        (λ before. ⊎_elim
        (λ same. first_push entries new (at + 1) entry.place entry.next (inr (has_next at entry apart before same)) (linked.go_on at entry before))
        (λ other. first_push entries new (at + 1) entry.place entry.next (inl (λ same. other (sym (sym of ∙ same)))) (linked.go_on at entry before))
        (cases_eq entry.place last.place))
        (push_at_cases entries new at entry there)

-- ---- an access is kept

pub kept_at : (entries : List KeptAccess) (index : ℕ) (was now : KeptAccess) (own : Latest) → IsAt entries index was → GivesWay was.latest own → now.place ≡ was.place → now.latest ≡ own → IsKept own (latest_in entries was.place) (latest_in (set entries index now) was.place)
kept_at entries index was now own is_at gives of own_is = record {
  there = subst (λ (one : Latest). Contains (latest_in (set entries index now) was.place) one) own_is (in_latest (set entries index now) index now was.place (set_at entries index now is_at.0) of);
  less = λ past among.
      let found = from_latest (set entries index now) was.place past among in
      ⊎_elim
      (λ same. inl (sym own_is ∙ ap (λ (one : KeptAccess). one.latest) (sym same.1) ∙ found.is))
      (λ other. inr (past, subst (λ (one : Latest). Contains (latest_in entries was.place) one) found.is (in_latest entries found.index found.entry was.place other.1 found.of), (refl, refl), λ place there. there))
      (set_at_cases entries index now found.index found.entry is_at.0 found.is_at);
  rest = λ past place among there.
      let found = from_latest entries was.place past among in
      ⊎_elim
      (λ same.
      let is : was.latest ≡ past = ap (λ (one : KeptAccess). one.latest) (same_at entries index was found.entry is_at (subst (λ (n : ℕ). IsAt entries n found.entry) same found.is_at)) ∙ found.is in
      inl (subst (λ (one : Latest). IsSameAuthor own.site one.site × (has own.bytes place ≡ true)) is (gives place (ap (λ (one : Latest). has one.bytes place) is ∙ there))))
      (λ apart. inr (
        past,
        subst (λ (one : Latest). Contains (latest_in (set entries index now) was.place) one) found.is
            (in_latest (set entries index now) found.index found.entry was.place (set_at_kept entries index now found.index found.entry apart found.is_at) found.of),
        (refl, refl),
        there,
      ))
      (cases_eq found.index index);
}

pub kept_push : (entries : List KeptAccess) (new : KeptAccess) (own : Latest) → new.latest ≡ own → IsKept own (latest_in entries new.place) (latest_in (entries ++ new ∷ []) new.place)
kept_push entries new own own_is = record {
  there = subst (λ (one : Latest). Contains (latest_in (entries ++ new ∷ []) new.place) one) own_is (in_latest (entries ++ new ∷ []) (length entries) new new.place (push_at_last entries new) refl);
  less = λ past among.
      let found = from_latest (entries ++ new ∷ []) new.place past among in
      ⊎_elim
      (λ last. inl (sym own_is ∙ ap (λ (one : KeptAccess). one.latest) (sym last.1) ∙ found.is))
      (λ before. inr (past, subst (λ (one : Latest). Contains (latest_in entries new.place) one) found.is (in_latest entries found.index found.entry new.place before found.of), (refl, refl), λ place there. there))
      (push_at_cases entries new found.index found.entry found.is_at);
  rest = λ past place among there.
      let found = from_latest entries new.place past among in
      inr (
        past,
        subst (λ (one : Latest). Contains (latest_in (entries ++ new ∷ []) new.place) one) found.is
            (in_latest (entries ++ new ∷ []) found.index found.entry new.place (push_at_kept entries new found.index found.entry found.is_at) found.of),
        (refl, refl),
        there,
      );
}

pub kept_same : (own : Latest) (old new was now : List Latest) → old ≡ was → new ≡ now → IsKept own old new → IsKept own was now
kept_same own old new was now one other kept = subst (λ (all : List Latest). IsKept own all now) one (subst (λ (all : List Latest). IsKept own old all) other kept)

-- ---- a walk from entry to entry of a word

-- the way to the end gets shorter
pub nearer : (count number next : ℕ) → number ≢ 0 → number ≤ count → (next ≢ 0 → number < next) → left_of count next < left_of count number
nearer count zero next some inside on = absurd (some refl)
nearer count (suc index) zero some inside on = omega arith
nearer count (suc index) (suc later) some inside on = let further = on (λ none. absurd (omega arith)) in omega arith

-- A number is 0 or that of an entry of the word.
abbrev pub IsOf : List KeptAccess → (place number : ℕ) → Type 0
IsOf entries place number = number ≢ 0 → (entry : KeptAccess) × IsAt entries (number - 1) entry × (entry.place ≡ place)

-- an entry of the word before the one of a number
abbrev pub IsSeen : (number index : ℕ) → Type 0
IsSeen number index = (number ≡ 0) ⊎ (index + 1 < number)

module _ (firsts : List ℕ) (entries : List KeptAccess) (place : ℕ) (linked : AreLinked firsts entries) where
  pub first_of : IsOf entries place (get_or firsts place 0)
  first_of some = let had = there_of entries 0 place (get_or firsts place 0) (linked.begin place) some in (had.0, had.1, had.2)

  -- none was seen at first
  pub none_seen : (index : ℕ) (entry : KeptAccess) → IsAt entries index entry → entry.place ≡ place → IsSeen (get_or firsts place 0) index → ⊥
  none_seen index entry is_at of seen =
      let first = (linked.begin place).first index entry (omega arith) is_at of in
      ⊎_elim (λ none. first.0 none) (λ early. let late = first.1 in absurd (omega arith)) seen

  module _ (number : ℕ) (entry : KeptAccess) (some : number ≢ 0) (is_at : IsAt entries (number - 1) entry) (of : entry.place ≡ place) where
    pub next_first : IsFirst entries number place entry.next
    next_first = subst (λ (p : ℕ). IsFirst entries number p entry.next) of (subst (λ (n : ℕ). IsFirst entries n entry.place entry.next) (omega arith) (linked.go_on (number - 1) entry is_at))

    pub next_of : IsOf entries place entry.next
    next_of more = let had = there_of entries number place entry.next next_first more in (had.0, had.1, had.2)

    pub next_nearer : left_of (length entries) entry.next < left_of (length entries) number
    next_nearer = let inside = is_at.0 in nearer (length entries) number entry.next some (omega arith) next_first.late

    -- once the entry was seen, those before the next one are the ones of before and it
    pub seen_cases : (index : ℕ) (other : KeptAccess) → IsAt entries index other → other.place ≡ place → IsSeen entry.next index → IsSeen number index ⊎ ((index ≡ number - 1) × (other ≡ entry))
    seen_cases index other there same seen = ⊎_elim
        (λ before. inl (inr before))
        (λ late. ⊎_elim
        (λ here. let at_here : index ≡ number - 1 = omega arith in inr (at_here, same_at entries index other entry there (subst (λ (n : ℕ). IsAt entries n entry) (sym at_here) is_at)))
        (λ apart.
        let first = next_first.first index other (omega arith) there same in
        ⊎_elim (λ none. absurd (first.0 none)) (λ early. let bound = first.1 in absurd (omega arith)) seen)
        (cases_eq (index + 1) number))
        (cases_lt (index + 1) number)

-- ---- the races with what is kept of a word, one entry after another

-- what was found so far
pub record HasFound (steps : List Step) (access : Access) (clocks : Clocks) (entries : List KeptAccess) (place number : ℕ) (found : List Race) : Type 0 where
  pub visited : List Latest
  pub all : (index : ℕ) (entry : KeptAccess) → IsAt entries index entry → entry.place ≡ place → IsSeen number index → Contains visited entry.latest
  pub finding : IsFinding steps access clocks visited found

module _ (steps : List Step) (access : Access) (clocks : Clocks) (firsts : List ℕ) (entries : List KeptAccess) (place : ℕ) (linked : AreLinked firsts entries) where
  pub found_none : (found : List Race) → IsFinding steps access clocks [] found → HasFound steps access clocks entries place (get_or firsts place 0) found
  found_none found finding = record {
    visited = [];
    all = λ index entry is_at of seen. absurd (none_seen firsts entries place linked index entry is_at of seen);
    finding = finding;
  }

  pub found_next : (number : ℕ) (entry : KeptAccess) (found more : List Race) → number ≢ 0 → IsAt entries (number - 1) entry → entry.place ≡ place
      → ((done : List Latest) → IsFinding steps access clocks done found → IsFinding steps access clocks (done ++ entry.latest ∷ []) more)
      → HasFound steps access clocks entries place number found → HasFound steps access clocks entries place entry.next more
  found_next number entry found more some is_at of one had = record {
    visited = had.visited ++ entry.latest ∷ [];
    all = λ index other there same seen. ⊎_elim
        (λ before. Contains-append_left had.visited (entry.latest ∷ []) other.latest (had.all index other there same before))
        (λ here. subst (λ (e : KeptAccess). Contains (had.visited ++ entry.latest ∷ []) e.latest) (sym here.1) (Contains-push had.visited entry.latest))
        (seen_cases firsts entries place linked number entry some is_at of index other there same seen);
    finding = one had.visited had.finding;
  }

  pub found_all : (number : ℕ) (found : List Race) → number ≡ 0 → HasFound steps access clocks entries place number found → IsFinding steps access clocks (latest_in entries place) found
  found_all number found end had = record {
    sound = had.finding.sound;
    old = had.finding.old;
    new = λ past at_place among hit there here.
        let kept = from_latest entries place past among in
        had.finding.new past at_place (subst (λ (one : Latest). Contains had.visited one) kept.is (had.all kept.index kept.entry kept.is_at kept.of (inl end))) hit there here;
  }

-- ---- bytes are taken from a word's entries, one after another

pub record IsErasing (bytes : ByteSet) (old part : List KeptAccess) (place number : ℕ) : Type 0 where
  pub long : length part ≡ length old
  pub seen : (index : ℕ) (was : KeptAccess) → IsAt old index was → was.place ≡ place → IsSeen number index → (now : KeptAccess) × IsAt part index now × IsCleared bytes was now
  pub rest : (index : ℕ) (was : KeptAccess) → IsAt old index was → (IsSeen number index → was.place ≡ place → ⊥) → IsAt part index was

both_true : (a b : Bool) → (a && not b) ≡ true → (a ≡ true) × (b ≢ true)
both_true true true is = absurd (cc is)
both_true true false is = (refl, λ same. absurd (cc same))
both_true false b is = absurd (cc is)

and_true : (a b : Bool) → a ≡ true → b ≢ true → (a && not b) ≡ true
and_true true true one other = absurd (other refl)
and_true true false one other = refl
and_true false b one other = absurd (cc one)

module _ (bytes : ByteSet) (firsts : List ℕ) (old : List KeptAccess) (place : ℕ) (linked : AreLinked firsts old) where
  pub erasing_none : IsErasing bytes old old place (get_or firsts place 0)
  erasing_none = record {
    long = refl;
    seen = λ index was is_at of seen. absurd (none_seen firsts old place linked index was is_at of seen);
    rest = λ index was is_at unseen. is_at;
  }

  -- the entry of the number is as it was
  pub erasing_here : (part : List KeptAccess) (number : ℕ) → number ≢ 0 → IsOf old place number → IsErasing bytes old part place number → (entry : KeptAccess) → IsAt part (number - 1) entry → IsAt old (number - 1) entry
  erasing_here part number some of done entry is_at =
      let had = of some in
      let unseen : IsSeen number (number - 1) → had.0.place ≡ place → ⊥ = λ seen same. ⊎_elim (λ none. some none) (λ early. absurd (omega arith)) seen in
      let same = same_at part (number - 1) had.0 entry (done.rest (number - 1) had.0 had.1 unseen) is_at in
      subst (λ (one : KeptAccess). IsAt old (number - 1) one) same had.1

  pub erasing_next : (part : List KeptAccess) (number : ℕ) (entry now : KeptAccess) → number ≢ 0 → IsAt old (number - 1) entry → entry.place ≡ place → IsCleared bytes entry now → IsErasing bytes old part place number
      → IsErasing bytes old (set part (number - 1) now) place entry.next
  erasing_next part number entry now some is_at of clear done = record {
    long = length-set part (number - 1) now ∙ done.long;
    seen = λ index was there same seen. ⊎_elim
        (λ before.
        let one = done.seen index was there same before in
        (one.0, set_at_kept part (number - 1) now index one.0 (λ here. ⊎_elim (λ none. some none) (λ early. absurd (omega arith)) before) one.1, one.2))
        (λ here.
        let inside = is_at.0 in
        let long = done.long in (
          now,
          subst (λ (n : ℕ). IsAt (set part (number - 1) now) n now) (sym here.0) (set_at part (number - 1) now (omega arith)),
          subst (λ (one : KeptAccess). IsCleared bytes one now) (sym here.1) clear,
        ))
        (seen_cases firsts old place linked number entry some is_at of index was there same seen);
    rest = λ index was there unseen.
        set_at_kept part (number - 1) now index was
        (λ here. unseen (seen_now index (omega arith)) (ap (λ (one : KeptAccess). one.place) (same_at old index was entry there (subst (λ (n : ℕ). IsAt old n entry) (sym here) is_at)) ∙ of))
        (done.rest index was there (λ seen same. unseen (seen_still index seen) same));
  }
    where
      next_late : entry.next ≢ 0 → number < entry.next
      next_late more = (next_first firsts old place linked number entry some is_at of).late more

      seen_now : (index : ℕ) → index + 1 ≤ number → IsSeen entry.next index
      seen_now index early = ⊎_elim (λ none. inl none) (λ more. let late = next_late more in inr (omega arith)) (cases_eq entry.next 0)

      seen_still : (index : ℕ) → IsSeen number index → IsSeen entry.next index
      seen_still index seen = ⊎_elim (λ none. absurd (some none)) (λ early. seen_now index (omega arith)) seen

  pub erased_all : (part : List KeptAccess) (number : ℕ) → number ≡ 0 → IsErasing bytes old part place number → IsErased bytes (latest_in old place) (latest_in part place)
  erased_all part number end done = record {
    less = λ now among.
        let found = from_latest part place now among in
        let long = done.long in
        let inside = found.is_at.0 in
        let was : KeptAccess = get_or old found.index found.entry in
        let there : IsAt old found.index was = some_at old found.index found.entry (omega arith) in
        ⊎_elim
        (λ same.
        let one = done.seen found.index was there same (inl end) in
        let is : one.0.latest ≡ now = ap (λ (e : KeptAccess). e.latest) (same_at part found.index one.0 found.entry one.1 found.is_at) ∙ found.is in (
          was.latest,
          in_latest old found.index was place there same,
          (ap (λ (l : Latest). l.site) (sym is) ∙ one.2.site, ap (λ (l : Latest). l.step) (sym is) ∙ one.2.step),
          λ at_place has_it. both_true (has was.latest.bytes at_place) (has bytes at_place) (sym (one.2.bytes_are at_place) ∙ ap (λ (l : Latest). has l.bytes at_place) is ∙ has_it),
        ))
        (λ apart. absurd (apart (ap (λ (e : KeptAccess). e.place) (same_at part found.index was found.entry (done.rest found.index was there (λ seen same. apart same)) found.is_at) ∙ found.of)))
        (cases_eq was.place place);
    rest = λ past at_place among has_it free.
        let found = from_latest old place past among in
        let one = done.seen found.index found.entry found.is_at found.of (inl end) in (
          one.0.latest,
          in_latest part found.index one.0 place one.1 (one.2.place_is ∙ found.of),
          (one.2.site ∙ ap (λ (l : Latest). l.site) found.is, one.2.step ∙ ap (λ (l : Latest). l.step) found.is),
          one.2.bytes_are at_place ∙ and_true (has found.entry.latest.bytes at_place) (has bytes at_place) (ap (λ (l : Latest). has l.bytes at_place) found.is ∙ has_it) free,
        );
  }

-- in an empty list nothing is found
pub get_none : (firsts : List ℕ) (place : ℕ) → length firsts ≡ 0 → get_or firsts place 0 ≡ 0
get_none [] place none = refl
get_none (first ∷ firsts) place none = absurd (omega arith)
