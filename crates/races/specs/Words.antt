-- What is kept of a word.
use Rattle.std.specs.Prelude.{◌≡◌, ◌≢◌, ℕ, ◌/◌, ◌%◌, ◌<◌, ◌≤◌, ◌⊎◌, ◌||◌, true, false, Option, Some, None, List, [], ◌∷◌, ◌++◌, Contains, length, map, slice_get, slice_index_or, slice_set}
use Rattle.std.specs.Global.{Box}
use Rattle.std.specs.Ordering.{nat_cmp}
use Rattle.std.specs.BTreeMap.{BTreeMap, get}
use Rattle.races.specs.Before.{at}
use Rattle.races.specs.Bytes.{has}
use Rattle.races.specs.Clocks.{Follows, Reaches, time_at, time_of}
use Rattle.races.specs.Linked.{IsAt, IsSameAccess, latest_in}
use Rattle.races.specs.Races.{AreRacing, IsOf, IsRace, IsSamePair, IsToldBy, Renews}
use Rattle.races.specs.Steps.{Step, IsSameAuthor}
use Rattle.races.specs.Steps.Step.{Touch, Renew}
use Rattle.races.specs.declared.byte_set.ByteSet.{ByteSet}
use Rattle.races.specs.declared.clocks.Clocks.{Clocks}
use Rattle.races.specs.declared.kept_access.KeptAccess.{KeptAccess}
use Rattle.races.specs.declared.race.Race.{Race}
use Rattle.races.specs.declared.site.Access.{Access}
use Rattle.races.specs.declared.site.Site.{Site}
use Rattle.races.specs.declared.ordered_race.OrderedRace.{OrderedRace}
use Rattle.races.specs.declared.found_race.FoundRace.{FoundRace}
use Rattle.races.specs.declared.latest.Latest.{Latest}
use Rattle.races.specs.declared.page_history.PageHistory.{PageHistory}
use Rattle.races.specs.declared.clock_owner.ClockOwner.{ClockOwner}
use Rattle.races.specs.declared.word_races.WordRaces.{WordRaces}

-- an access is of these bytes by this instruction of the thread
pub record IsAlike (past : Latest) (site : Site) (bytes : ByteSet) : Type 0 where
  pub same_author : IsSameAuthor past.site site
  pub same_bytes : past.bytes ≡ bytes

-- the accesses that are kept of a word, without its bytes that begin a new life
pub record IsRenewed (address length word : ℕ) (old new : List Latest) : Type 0 where
  pub less : (now : Latest) → Contains new now
      → (was : Latest) × Contains old was × IsSameAccess now was × ((place : ℕ) → has now.bytes place ≡ true → (has was.bytes place ≡ true) × ¬ Renews (Renew address length) word place)
  pub rest : (was : Latest) (place : ℕ) → Contains old was → has was.bytes place ≡ true → ¬ Renews (Renew address length) word place → (now : Latest) × Contains new now × IsSameAccess now was × (has now.bytes place ≡ true)

-- An access is kept: it is there, and for its bytes it may stand in the place of those of the same instruction of the thread.
pub record IsKept (own : Latest) (old new : List Latest) : Type 0 where
  pub there : Contains new own
  pub less : (now : Latest) → Contains new now
      → (own ≡ now) ⊎ ((was : Latest) × Contains old was × IsSameAccess now was × ((place : ℕ) → has now.bytes place ≡ true → has was.bytes place ≡ true))
  pub rest : (was : Latest) (place : ℕ) → Contains old was → has was.bytes place ≡ true
      → (IsSameAuthor own.site was.site × (has own.bytes place ≡ true)) ⊎ ((now : Latest) × Contains new now × IsSameAccess now was × (has now.bytes place ≡ true))

-- what belongs to each number but this one stays
abbrev pub StaysElsewhere : {A : Type 0} → (old : ℕ → A) → (number : ℕ) → (new : ℕ → A) → Type 0
StaysElsewhere old number new = (other : ℕ) → (number ≡ other → ⊥) → new other ≡ old other

-- an access is kept of the word with this number, and what is kept of the others stays
pub record KeepsAt (old : ℕ → List Latest) (number : ℕ) (kept : Latest) (new : ℕ → List Latest) : Type 0 where
  pub own : IsKept kept (old number) (new number)
  pub others : StaysElsewhere old number new

-- an access is kept of the word that the entry at an index is of
abbrev pub KeepsWith : (old : List KeptAccess) → (index : ℕ) → Latest → (new : List KeptAccess) → Type 0
KeepsWith old index kept new = (entry : KeptAccess) → IsAt old index entry → KeepsAt (latest_in old) entry.place kept (latest_in new)

-- an access of before races with one of now: another thread's, one of both a store, one of both not atomic, and not before the time of the
-- past
pub record IsHit (times : ℕ → ℕ) (past : Latest) (access : Access) : Type 0 where
  pub threads : past.site.thread ≢ access.site.thread
  pub stores : (past.site.is_store ≡ true) ⊎ (access.site.is_store ≡ true)
  pub plain : (past.site.is_atomic ≡ false) ⊎ (access.site.is_atomic ≡ false)
  pub unordered : times past.site.thread ≤ past.step

-- a race with more bytes
pub record IsGrown (was now race : FoundRace) : Type 0 where
  pub pair : IsSamePair was.first was.second race.first race.second
  pub first : now.first ≡ was.first
  pub second : now.second ≡ was.second
  pub bytes : (place : ℕ) → has now.bytes place ≡ (has was.bytes place || has race.bytes place)

-- a race is noted: as a new one, or by its bytes at one of the same instructions
abbrev pub IsNoted : (old new : List FoundRace) → FoundRace → Type 0
IsNoted old new race =
    (new ≡ old ++ race ∷ [])
    ⊎ ((index : ℕ) × (was : FoundRace) × (now : FoundRace) × (index < length old) × (slice_index_or old index was ≡ was) × IsGrown was now race × (new ≡ slice_set old index now))

-- an access that is kept: its bytes are still in the life that they had then
pub record IsLatest (steps : List Step) (word : ℕ) (past : Latest) : Type 0 where
  pub access : Access
  pub is : at steps past.step ≡ Touch access
  pub site : access.site ≡ past.site
  pub of : (place : ℕ) → has past.bytes place ≡ true → IsOf access word place
  pub life : (place later : ℕ) → has past.bytes place ≡ true → past.step < later → ¬ Renews (at steps later) word place

-- what has one step in its past has another
abbrev pub IsCovered : List Step → (step index : ℕ) → Type 0
IsCovered steps step index = (place : ClockOwner) → Reaches steps step place → Reaches steps index place

-- for each access of a word's byte in its present life one of the same instruction of the thread is kept that stands for it
pub record KnowsLatest (steps : List Step) (word : ℕ) (latest : List Latest) : Type 0 where
  pub sound : (past : Latest) → Contains latest past → IsLatest steps word past
  pub complete : (index : ℕ) (access : Access) (place : ℕ) → at steps index ≡ Touch access → IsOf access word place
      → ((later : ℕ) → index < later → ¬ Renews (at steps later) word place)
      → (past : Latest) × Contains latest past × IsSameAuthor past.site access.site × (has past.bytes place ≡ true) × IsCovered steps past.step index

-- the race that was found at a word
abbrev pub race_of : (word : ℕ) → FoundRace → Race
race_of word found = record { word = word; bytes = found.bytes; first = found.first; second = found.second }

-- the races found at a word are those of its bytes
pub record KnowsFound (steps : List Step) (word : ℕ) (found : List FoundRace) : Type 0 where
  pub sound : (race : FoundRace) → Contains found race → IsRace steps (race_of word race)
  pub complete : (earlier later : ℕ) (one other : Access) (place : ℕ) → AreRacing steps earlier later one other word place
      → (race : FoundRace) × Contains found race × IsToldBy (race_of word race) one.site other.site word place

pub record KnowsWord (steps : List Step) (word : ℕ) (latest : List Latest) (found : List FoundRace) : Type 0 where
  pub accesses : KnowsLatest steps word latest
  pub races : KnowsFound steps word found

-- What is found once an access was held against some of the accesses of before: each is a race; those of before are there; and those of the
-- access with these.
pub record IsFinding (steps : List Step) (access : Access) (clocks : Clocks) (done : List Latest) (found : List FoundRace) : Type 0 where
  pub sound : (race : FoundRace) → Contains found race → IsRace (steps ++ Touch access ∷ []) (race_of access.word race)
  pub old : (earlier later : ℕ) (one other : Access) (place : ℕ) → AreRacing steps earlier later one other access.word place
      → (race : FoundRace) × Contains found race × IsToldBy (race_of access.word race) one.site other.site access.word place
  pub new : (past : Latest) (place : ℕ) → Contains done past → IsHit (time_of clocks.threads.clocks.items access.site.thread) past access → has past.bytes place ≡ true → has access.bytes place ≡ true
      → (race : FoundRace) × Contains found race × IsToldBy (race_of access.word race) past.site access.site access.word place

-- the clocks follow the steps
abbrev pub Times : List Step → Clocks → Type 0
Times steps clocks = Follows steps (time_at clocks (length steps))

-- the pages by their numbers: there is one once one of its words was accessed
abbrev pub PageList : Type 0
PageList = List (Option (Box PageHistory))

-- of a word of a page
abbrev pub latest_on : Option (Option (Box PageHistory)) → (place : ℕ) → List Latest
latest_on None place = []
latest_on (Some None) place = []
latest_on (Some (Some page)) place = latest_in page.value.entries.items place

-- a page has 4,096 words that follow each other
abbrev pub latest_at : PageList → (word : ℕ) → List Latest
latest_at pages word = latest_on (slice_get pages (word / 4096)) (word % 4096)

-- the races that were found at a word
abbrev pub found_by : Option WordRaces → List FoundRace
found_by None = []
found_by (Some races) = races.found.items

abbrev pub found_at : BTreeMap ℕ WordRaces → (word : ℕ) → List FoundRace
found_at races word = found_by (get nat_cmp races word)

-- what is kept of each word
abbrev pub KnowsWords : List Step → PageList → BTreeMap ℕ WordRaces → Type 0
KnowsWords steps pages races = (word : ℕ) → KnowsWord steps word (latest_at pages word) (found_at races word)

-- a race with the index of its second step
abbrev pub told_at : (word : ℕ) → FoundRace → OrderedRace
told_at word found = record { race = race_of word found; step = found.step }

-- the races found at all words
abbrev pub told_of : List (ℕ × WordRaces) → List OrderedRace
told_of [] = []
told_of (entry ∷ entries) = map (told_at entry.0) entry.1.found.items ++ told_of entries
