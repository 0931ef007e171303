-- The races found at all words are the races.
use Rattle.std.proofs.Common.{◌≡◌, ℕ, Option, Some, None, List, [], ◌∷◌, map, refl, sym, ◌∙◌, ap, subst, ⊎_elim}
use Rattle.std.specs.Prelude.{Contains}
use Rattle.std.specs.Ordering.{nat_cmp}
use Rattle.std.specs.BTreeMap.{BTreeMap, IsOrdered, get}
use Rattle.std.specs.Cmp.{nat_cmp_total}
use Rattle.std.specs.List.Sorted.{IsPermutation}
use Rattle.std.proofs.lemmas.List.Elements.{Contains-append_cases, Contains-append_left, Contains-append_right, Contains-push}
use Rattle.std.proofs.lemmas.List.Sorted.{Contains-permutation, IsPermutation-sym}
use Rattle.std.proofs.lemmas.Map.Lookups.{exact_unsigned}
use Rattle.std.proofs.lemmas.Map.Views.{btree_map_get_iff}
use Rattle.races.specs.Races.{AreRaces, AreRacing, IsRace, IsToldBy}
use Rattle.races.specs.Steps.{Step}
use Rattle.races.specs.Words.{KnowsWords, KnowsFound, PageList, found_by, race_of, told_at, told_of}
use Rattle.races.specs.declared.race.Race.{Race}
use Rattle.races.specs.declared.site.Access.{Access}
use Rattle.races.specs.declared.ordered_race.OrderedRace.{OrderedRace}
use Rattle.races.specs.declared.found_race.FoundRace.{FoundRace}
use Rattle.races.specs.declared.word_races.WordRaces.{WordRaces}
use Rattle.races.proofs.Clocked.{none_contained}
use Rattle.races.proofs.Kept.{contains_cases}

contains_first : {X : Type 0} (y : X) (ys : List X) → Contains (y ∷ ys) y
contains_first y ys = Contains-append_left (y ∷ []) ys y (Contains-push [] y)

contains_later : {X : Type 0} (y : X) (ys : List X) (x : X) → Contains ys x → Contains (y ∷ ys) x
contains_later y ys x there = Contains-append_right (y ∷ []) ys x there

map_from : {X Y : Type 0} (f : X → Y) (xs : List X) (y : Y) → Contains (map f xs) y → (x : X) × Contains xs x × (f x ≡ y)
map_from f [] y there = absurd (none_contained y there)
map_from f (x ∷ xs) y there = ⊎_elim
    (λ same. (x, contains_first x xs, same))
    (λ later. let rest = map_from f xs y later in (rest.0, contains_later x xs rest.0 rest.1, rest.2))
    (contains_cases (f x) (map f xs) y there)

map_into : {X Y : Type 0} (f : X → Y) (xs : List X) (x : X) → Contains xs x → Contains (map f xs) (f x)
map_into f [] x there = absurd (none_contained x there)
map_into f (first ∷ xs) x there = ⊎_elim
    (λ same. subst (λ (one : _). Contains (f first ∷ map f xs) (f one)) same (contains_first (f first) (map f xs)))
    (λ later. contains_later (f first) (map f xs) (f x) (map_into f xs x later))
    (contains_cases first xs x there)

-- a race that is told was found at a word
pub record ToldFrom (entries : List (ℕ × WordRaces)) (told : OrderedRace) : Type 0 where
  pub number : ℕ
  pub word : WordRaces
  pub found : FoundRace
  pub entry : Contains entries (number, word)
  pub among : Contains word.found.items found
  pub is : told_at number found ≡ told

told_from : (entries : List (ℕ × WordRaces)) (told : OrderedRace) → Contains (told_of entries) told → ToldFrom entries told
told_from [] told there = absurd (none_contained told there)
told_from (entry ∷ entries) told there = ⊎_elim
    (λ here.
    let from = map_from (told_at entry.0) entry.1.found.items told here in
    record { number = entry.0; word = entry.1; found = from.0; entry = contains_first entry entries; among = from.1; is = from.2 })
    (λ later.
    let rest = told_from entries told later in
    record { number = rest.number; word = rest.word; found = rest.found; entry = contains_later entry entries (rest.number, rest.word) rest.entry; among = rest.among; is = rest.is })
    (Contains-append_cases (map (told_at entry.0) entry.1.found.items) (told_of entries) told there)

told_into : (entries : List (ℕ × WordRaces)) (number : ℕ) (word : WordRaces) (found : FoundRace) → Contains entries (number, word) → Contains word.found.items found → Contains (told_of entries) (told_at number found)
told_into [] number word found entry among = absurd (none_contained {X = ℕ × WordRaces} (number, word) entry)
told_into (first ∷ entries) number word found entry among = ⊎_elim
    (λ same.
    Contains-append_left (map (told_at first.0) first.1.found.items) (told_of entries) (told_at number found)
    (subst (λ (one : ℕ × WordRaces). Contains (map (told_at one.0) one.1.found.items) (told_at number found)) (sym same) (map_into (told_at number) word.found.items found among)))
    (λ later. Contains-append_right (map (told_at first.0) first.1.found.items) (told_of entries) (told_at number found) (told_into entries number word found later among))
    (contains_cases {X = ℕ × WordRaces} first entries (number, word) entry)

-- a race that was found at a word is in its entry
found_in : (words : BTreeMap ℕ WordRaces) (number : ℕ) (kept : Option WordRaces) (found : FoundRace) → get nat_cmp words number ≡ kept → IsOrdered nat_cmp words → Contains (found_by kept) found → Contains (told_of words.entries) (told_at number found)
found_in words number None found is ordered among = absurd (none_contained found among)
found_in words number (Some word) found is ordered among = told_into words.entries number word found ((btree_map_get_iff nat_cmp_total exact_unsigned words ordered number word).0 is) among

pub told_races : (steps : List Step) (pages : PageList) (words : BTreeMap ℕ WordRaces) → IsOrdered nat_cmp words → KnowsWords steps pages words → (sorted : List OrderedRace) → IsPermutation (told_of words.entries) sorted
    → AreRaces steps (map (λ (one : OrderedRace). one.race) sorted)
told_races steps pages words ordered knows sorted permuted = record { sound = sound; complete = complete }
  where
    sound : (race : Race) → Contains (map (λ (one : OrderedRace). one.race) sorted) race → IsRace steps race
    sound race there =
        let told = map_from (λ (one : OrderedRace). one.race) sorted race there in
        let from = told_from words.entries told.0 (Contains-permutation sorted (told_of words.entries) told.0 (IsPermutation-sym (told_of words.entries) sorted permuted) told.1) in
        let found : get nat_cmp words from.number ≡ Some from.word = (btree_map_get_iff nat_cmp_total exact_unsigned words ordered from.number from.word).1 from.entry in
        let known : KnowsFound steps from.number from.word.found.items =
        subst (λ (races : Option WordRaces). KnowsFound steps from.number (found_by races)) found (knows from.number).races in
        subst (IsRace steps) (ap (λ (one : OrderedRace). one.race) from.is ∙ told.2) (known.sound from.found from.among)

    complete : (earlier later : ℕ) (one other : Access) (word place : ℕ) → AreRacing steps earlier later one other word place
        → (race : Race) × Contains (map (λ (one_told : OrderedRace). one_told.race) sorted) race × IsToldBy race one.site other.site word place
    complete earlier later one other word place racing =
        let found = (knows word).races.complete earlier later one other place racing in
        let there = found_in words word (get nat_cmp words word) found.0 refl ordered found.1 in (
          race_of word found.0,
          map_into (λ (one_told : OrderedRace). one_told.race) sorted (told_at word found.0) (Contains-permutation (told_of words.entries) sorted (told_at word found.0) permuted there),
          found.2,
        )
