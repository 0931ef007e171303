-- Races that are noted.
use Rattle.std.proofs.Common.{◌≡◌, ℕ, ◌<◌, ◌||◌, Bool, true, false, List, [], ◌∷◌, length, get_or, set, refl, sym, ◌∙◌, ap, subst, ⊎_elim, inl, inr}
use Rattle.std.specs.Prelude.{◌⊎◌, Contains}
use Rattle.std.proofs.lemmas.Bool.{cases_eq, or_cases}
use Rattle.std.proofs.lemmas.List.{get_or-set_same, get_or-set_other, get_or_default, length-set}
use Rattle.std.proofs.lemmas.List.Elements.{Contains-append_left, Contains-push, Contains-push_cases}
use Rattle.races.specs.Bytes.{has}
use Rattle.races.specs.Races.{IsRace, IsSamePair, IsToldBy, RaceAt}
use Rattle.races.specs.Steps.{Step, IsSameInstruction}
use Rattle.races.specs.Words.{IsGrown, IsNoted, race_of}
use Rattle.races.specs.declared.site.Site.{Site}
use Rattle.races.specs.declared.found_race.FoundRace.{FoundRace}

pub same_trans : (a b c : Site) → IsSameInstruction a b → IsSameInstruction b c → IsSameInstruction a c
same_trans a b c one other = (one.0 ∙ other.0, one.1 ∙ other.1, one.2 ∙ other.2)

pub same_sym : (a b : Site) → IsSameInstruction a b → IsSameInstruction b a
same_sym a b one = (sym one.0, sym one.1, sym one.2)

pub pair_refl : (a b : Site) → IsSamePair a b a b
pair_refl a b = inl ((refl, refl, refl), (refl, refl, refl))

pub pair_trans : (a b c d e f : Site) → IsSamePair a b c d → IsSamePair c d e f → IsSamePair a b e f
pair_trans a b c d e f one other = ⊎_elim
    (λ straight. ⊎_elim
    (λ next. inl (same_trans a c e straight.0 next.0, same_trans b d f straight.1 next.1))
    (λ next. inr (same_trans a c f straight.0 next.0, same_trans b d e straight.1 next.1))
    other)
    (λ crossed. ⊎_elim
    (λ next. inr (same_trans a d f crossed.0 next.1, same_trans b c e crossed.1 next.0))
    (λ next. inl (same_trans a d e crossed.0 next.1, same_trans b c f crossed.1 next.0))
    other)
    one

or_left : (a b : Bool) → a ≡ true → (a || b) ≡ true
or_left true b is = refl
or_left false b is = absurd (cc is)

or_right : (a b : Bool) → b ≡ true → (a || b) ≡ true
or_right true b is = refl
or_right false b is = is

-- an element of a list in which one element is another
pub set_cases : {X : Type 0} (xs : List X) (index : ℕ) (now x : X) → index < length xs → Contains (set xs index now) x → (now ≡ x) ⊎ Contains xs x
set_cases {X} xs index now x inside (k, small, is) = ⊎_elim
    (λ same. inl (sym (get_or-set_same xs index now x inside) ∙ ap (λ (n : ℕ). get_or (set xs index now) n x) (sym same) ∙ is))
    (λ apart. inr (k, subst (λ (n : ℕ). k < n) (length-set xs index now) small, sym (get_or-set_other xs index k now x apart) ∙ is))
    (cases_eq k index)

pub set_here : {X : Type 0} (xs : List X) (index : ℕ) (now : X) → index < length xs → Contains (set xs index now) now
set_here xs index now inside = (index, subst (λ (n : ℕ). index < n) (sym (length-set xs index now)) inside, get_or-set_same xs index now now inside)

pub set_kept : {X : Type 0} (xs : List X) (index : ℕ) (was now x : X) → index < length xs → get_or xs index was ≡ was → Contains xs x → (was ≡ x) ⊎ Contains (set xs index now) x
set_kept {X} xs index was now x inside at_index (k, small, is) = ⊎_elim
    (λ same. inl (sym at_index ∙ get_or_default xs index was x inside ∙ ap (λ (n : ℕ). get_or xs n x) (sym same) ∙ is))
    (λ apart. inr (k, subst (λ (n : ℕ). k < n) (sym (length-set xs index now)) small, get_or-set_other xs index k now x apart ∙ is))
    (cases_eq k index)

module _ (steps : List Step) (word : ℕ) where
  -- a race with more bytes at which its instructions race
  grown : (was now race : FoundRace) → IsGrown was now race → IsRace steps (race_of word was) → IsRace steps (race_of word race) → IsRace steps (race_of word now)
  grown was now race is old new = record {
    earlier = old.earlier;
    later = old.later;
    one = old.one;
    other = old.other;
    place = old.place;
    first_is = old.first_is ∙ sym is.first;
    second_is = old.second_is ∙ sym is.second;
    among = is.bytes old.place ∙ or_left (has was.bytes old.place) (has race.bytes old.place) old.among;
    racing = old.racing;
    bytes = λ place there. subst (λ (first : Site). RaceAt steps first now.second word place) (sym is.first) (subst (λ (second : Site). RaceAt steps was.first second word place) (sym is.second)
        (⊎_elim
        (λ before. old.bytes place before)
        (λ more.
        let at_place = new.bytes place more in record {
          earlier = at_place.earlier;
          later = at_place.later;
          one = at_place.one;
          other = at_place.other;
          pair = pair_trans was.first was.second race.first race.second at_place.one.site at_place.other.site is.pair at_place.pair;
          race = at_place.race;
        })
        (or_cases (has was.bytes place) (has race.bytes place) (sym (is.bytes place) ∙ there))));
  }

  pub noted_sound : (old new : List FoundRace) (race : FoundRace) → IsNoted old new race → ((one : FoundRace) → Contains old one → IsRace steps (race_of word one)) → IsRace steps (race_of word race)
      → (one : FoundRace) → Contains new one → IsRace steps (race_of word one)
  noted_sound old new race noted were is one among = ⊎_elim
      (λ pushed. ⊎_elim (λ before. were one before) (λ same. subst (λ (f : FoundRace). IsRace steps (race_of word f)) same is) (Contains-push_cases old race one (subst (λ (all : List FoundRace). Contains all one) pushed among)))
      (λ (index, was, now, inside, at_index, grows, put).
      ⊎_elim
      (λ same. subst (λ (f : FoundRace). IsRace steps (race_of word f)) same (grown was now race grows (were was (index, inside, at_index)) is))
      (λ before. were one before)
      (set_cases old index now one inside (subst (λ (all : List FoundRace). Contains all one) put among)))
      noted

  pub noted_kept : (old new : List FoundRace) (race : FoundRace) → IsNoted old new race → (first second : Site) (place : ℕ)
      → (one : FoundRace) × Contains old one × IsToldBy (race_of word one) first second word place → (one : FoundRace) × Contains new one × IsToldBy (race_of word one) first second word place
  noted_kept old new race noted first second place (one, among, told) = ⊎_elim
      (λ pushed. (one, subst (λ (all : List FoundRace). Contains all one) (sym pushed) (Contains-append_left old (race ∷ []) one among), told))
      (λ (index, was, now, inside, at_index, grows, put).
      ⊎_elim
      (λ same.
      let tells = subst (λ (f : FoundRace). IsToldBy (race_of word f) first second word place) (sym same) told in (
        now,
        subst (λ (all : List FoundRace). Contains all now) (sym put) (set_here old index now inside),
        record {
          word_is = refl;
          pair = subst (λ (f : Site). IsSamePair f now.second first second) (sym grows.first) (subst (λ (s : Site). IsSamePair was.first s first second) (sym grows.second) tells.pair);
          has_it = grows.bytes place ∙ or_left (has was.bytes place) (has race.bytes place) tells.has_it;
        },
      ))
      (λ kept. (one, subst (λ (all : List FoundRace). Contains all one) (sym put) kept, told))
      (set_kept old index was now one inside at_index among))
      noted

  pub noted_own : (old new : List FoundRace) (race : FoundRace) → IsNoted old new race → (place : ℕ) → has race.bytes place ≡ true
      → (one : FoundRace) × Contains new one × IsToldBy (race_of word one) race.first race.second word place
  noted_own old new race noted place there = ⊎_elim
      (λ pushed. (race, subst (λ (all : List FoundRace). Contains all race) (sym pushed) (Contains-push old race), record { word_is = refl; pair = pair_refl race.first race.second; has_it = there }))
      (λ (index, was, now, inside, at_index, grows, put). (
        now,
        subst (λ (all : List FoundRace). Contains all now) (sym put) (set_here old index now inside),
        record {
          word_is = refl;
          pair = subst (λ (f : Site). IsSamePair f now.second race.first race.second) (sym grows.first) (subst (λ (s : Site). IsSamePair was.first s race.first race.second) (sym grows.second) grows.pair);
          has_it = grows.bytes place ∙ or_right (has was.bytes place) (has race.bytes place) there;
        },
      ))
      noted
