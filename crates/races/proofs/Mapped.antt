-- What is kept of all words, with one step more at the end.
use Rattle.std.proofs.Common.{◌≡◌, ℕ, ◌<◌, Bool, cond, Some, List, [], ◌∷◌, ◌++◌, refl, sym, ◌∙◌, ap, subst, ⊎_elim}
use Rattle.std.specs.Ordering.{nat_cmp}
use Rattle.std.specs.BTreeMap.{BTreeMap, get, is_at}
use Rattle.std.specs.Cmp.{unsigned_ties}
use Rattle.std.proofs.lemmas.Bool.{cases_eq, eq-eqb, ne_eqb}
use Rattle.races.specs.Races.{Renews}
use Rattle.races.specs.Steps.{Step}
use Rattle.races.specs.Steps.Step.{Touch, Renew}
use Rattle.races.specs.Words.{IsRenewed, KnowsWord, KnowsWords, PageList, found_at, latest_at}
use Rattle.races.specs.declared.found_race.FoundRace.{FoundRace}
use Rattle.races.specs.declared.latest.Latest.{Latest}
use Rattle.races.specs.declared.race_map.RaceMap.{RaceMap}
use Rattle.races.specs.declared.site.Access.{Access}
use Rattle.races.specs.declared.word_races.WordRaces.{WordRaces}
use Rattle.races.proofs.Clocked.{none_contained}
use Rattle.races.proofs.Kept.{latest_other, latest_renewed}
use Rattle.races.proofs.Racing.{found_more}

-- a word that a step is not of
pub word_other : (steps : List Step) (step : Step) (word : ℕ) (latest : List Latest) (found : List FoundRace) → ((access : Access) → step ≡ Touch access → access.word ≡ word → ⊥) → ((place : ℕ) → place < 4 → Renews step word place → ⊥)
    → KnowsWord steps word latest found → KnowsWord (steps ++ step ∷ []) word latest found
word_other steps step word latest found not_of not_renews knows = record {
  accesses = latest_other steps step word latest not_of not_renews knows.accesses;
  races = found_more steps step word found not_of knows.races;
}

-- what is kept of each word stays
pub words_same : (steps : List Step) (old new : PageList) (was now : RaceMap) → ((word : ℕ) → latest_at new word ≡ latest_at old word) → now ≡ was → KnowsWords steps old was.words → KnowsWords steps new now.words
words_same steps old new was now stays same knows word =
    subst (λ (latest : List Latest). KnowsWord steps word latest (found_at now.words word)) (sym (stays word))
    (subst (λ (races : RaceMap). KnowsWord steps word (latest_at old word) (found_at races.words word)) (sym same) (knows word))

-- an order changes no word
pub words_ordered : (steps : List Step) (step : Step) (pages : PageList) (races : BTreeMap ℕ WordRaces) → ((access : Access) → step ≡ Touch access → ⊥) → ((word place : ℕ) → Renews step word place → ⊥) → KnowsWords steps pages races
    → KnowsWords (steps ++ step ∷ []) pages races
words_ordered steps step pages races no_access no_renewal knows word = word_other steps step word _ _ (λ access is of. no_access access is) (λ place small. no_renewal word place) (knows word)

pub words_none : (word : ℕ) → KnowsWord [] word [] []
words_none word = record {
  accesses = record { sound = λ past among. absurd (none_contained past among); complete = λ index access place is of alive. absurd (cc is) };
  races = record { sound = λ race among. absurd (none_contained race among); complete = λ earlier later one other place race. absurd (cc race.first_is) };
}

-- the word that an access is of, and the others
pub words_touched : (steps : List Step) (access : Access) (old new : PageList) (was now : BTreeMap ℕ WordRaces) → KnowsWord (steps ++ Touch access ∷ []) access.word (latest_at new access.word) (found_at now access.word)
    → ((other : ℕ) → (access.word ≡ other → ⊥) → latest_at new other ≡ latest_at old other) → ((other : ℕ) → (access.word ≡ other → ⊥) → found_at now other ≡ found_at was other) → KnowsWords steps old was
    → KnowsWords (steps ++ Touch access ∷ []) new now
words_touched steps access old new was now own latest found knows other = ⊎_elim
    (λ same. subst (λ (n : ℕ). KnowsWord (steps ++ Touch access ∷ []) n (latest_at new n) (found_at now n)) same own)
    (λ apart.
    let known : KnowsWord (steps ++ Touch access ∷ []) other (latest_at old other) (found_at was other) =
    word_other steps (Touch access) other _ _ (λ one is of. let same : access ≡ one = cc is in apart (ap (λ (a : Access). a.word) same ∙ of)) (λ place small renews. renews) (knows other) in
    subst (λ (kept : List Latest). KnowsWord (steps ++ Touch access ∷ []) other kept (found_at now other)) (sym (latest other apart))
    (subst (λ (races : List FoundRace). KnowsWord (steps ++ Touch access ∷ []) other (latest_at old other) races) (sym (found other apart)) known))
    (cases_eq access.word other)

-- bytes begin a new life
pub words_renewed : (steps : List Step) (address long : ℕ) (old new : PageList) (races : BTreeMap ℕ WordRaces) → ((word : ℕ) → IsRenewed address long word (latest_at old word) (latest_at new word)) → KnowsWords steps old races
    → KnowsWords (steps ++ Renew address long ∷ []) new races
words_renewed steps address long old new races renewed knows word = record {
  accesses = latest_renewed steps address long word (latest_at old word) (latest_at new word) (renewed word) (knows word).accesses;
  races = found_more steps (Renew address long) word (found_at races word) (λ access is of. cc is) (knows word).races;
}

-- ---- the races of a word in the map

module _ (old new : BTreeMap ℕ WordRaces) (word : ℕ) (kept : WordRaces) (puts : (other : ℕ) → get nat_cmp new other ≡ cond (is_at (nat_cmp word) other) (Some kept) (get nat_cmp old other)) where
  pub races_here : get nat_cmp new word ≡ Some kept
  races_here = puts word ∙ ap (λ (b : Bool). cond b (Some kept) (get nat_cmp old word)) (sym (unsigned_ties word word) ∙ eq-eqb word word refl)

  pub races_apart : (other : ℕ) → (word ≡ other → ⊥) → get nat_cmp new other ≡ get nat_cmp old other
  races_apart other apart = puts other ∙ ap (λ (b : Bool). cond b (Some kept) (get nat_cmp old other)) (sym (unsigned_ties word other) ∙ ne_eqb word other apart)
