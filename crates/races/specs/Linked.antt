-- How the accesses that are kept of a page's words are linked. An entry's number is its index and one more, so that 0 stands for none.
use Rattle.std.specs.Prelude.{◌≡◌, ◌≢◌, ℕ, ◌+◌, ◌-◌, ◌<◌, ◌≤◌, ◌==◌, ◌&&◌, true, not, List, Contains, length, map, slice_index_or, suc, zero}
use Rattle.std.specs.List.{filter}
use Rattle.races.specs.Bytes.{has}
use Rattle.races.specs.declared.byte_set.ByteSet.{ByteSet}
use Rattle.races.specs.declared.kept_access.KeptAccess.{KeptAccess}
use Rattle.races.specs.declared.latest.Latest.{Latest}
use Rattle.races.specs.declared.spot.Spot.{Spot}
use Rattle.races.specs.declared.spot.Spot.TheVariants.{At, After, First}
use Rattle.races.specs.Steps.{IsSameAuthor}

-- what is kept of the word at a place
abbrev pub latest_in : List KeptAccess → (place : ℕ) → List Latest
latest_in entries place = map (λ entry. entry.latest) (filter (λ entry. entry.place == place) entries)

-- an entry is at an index
abbrev pub IsAt : List KeptAccess → (index : ℕ) → KeptAccess → Type 0
IsAt entries index entry = (index < length entries) × (slice_index_or entries index entry ≡ entry)

-- a number is that of the first entry of a word from an index on
pub record IsFirst (entries : List KeptAccess) (from place number : ℕ) : Type 0 where
  pub inside : number ≢ 0 → number ≤ length entries
  pub late : number ≢ 0 → from < number
  pub of : (entry : KeptAccess) → number ≢ 0 → IsAt entries (number - 1) entry → entry.place ≡ place
  pub first : (index : ℕ) (entry : KeptAccess) → from ≤ index → IsAt entries index entry → entry.place ≡ place → (number ≢ 0) × (number ≤ index + 1)

-- each word leads to its first entry, and each entry to the next one of its word
pub record AreLinked (firsts : List ℕ) (entries : List KeptAccess) : Type 0 where
  pub begin : (place : ℕ) → IsFirst entries 0 place (slice_index_or firsts place 0)
  pub go_on : (index : ℕ) (entry : KeptAccess) → IsAt entries index entry → IsFirst entries (index + 1) entry.place entry.next

-- an access has no byte but such as a later one of the same instruction of the thread has
abbrev pub GivesWay : (was own : Latest) → Type 0
GivesWay was own = (place : ℕ) → has was.bytes place ≡ true → IsSameAuthor own.site was.site × (has own.bytes place ≡ true)

-- where an access may be kept of the word at a place, if no entry of this number or after it was looked at
abbrev pub IsSpot : (firsts : List ℕ) → List KeptAccess → (place number : ℕ) → (own : Latest) → Spot → Type 0
IsSpot firsts entries place number own (At index) = (entry : KeptAccess) × IsAt entries index entry × (entry.place ≡ place) × GivesWay entry.latest own
IsSpot firsts entries place number own (After index) = (entry : KeptAccess) × IsAt entries index entry × (entry.place ≡ place) × (entry.next ≡ number)
IsSpot firsts entries place number own First = slice_index_or firsts place 0 ≡ number

-- bytes are taken from an entry
pub record IsCleared (bytes : ByteSet) (was now : KeptAccess) : Type 0 where
  pub site : now.latest.site ≡ was.latest.site
  pub step : now.latest.step ≡ was.latest.step
  pub bytes_are : (place : ℕ) → has now.latest.bytes place ≡ (has was.latest.bytes place && not (has bytes place))
  pub place_is : now.place ≡ was.place
  pub next_is : now.next ≡ was.next

-- the same access
abbrev pub IsSameAccess : Latest → Latest → Type 0
IsSameAccess one other = (one.site ≡ other.site) × (one.step ≡ other.step)

-- the accesses without some bytes
pub record IsErased (bytes : ByteSet) (old new : List Latest) : Type 0 where
  pub less : (now : Latest) → Contains new now
      → (was : Latest) × Contains old was × IsSameAccess now was × ((place : ℕ) → has now.bytes place ≡ true → (has was.bytes place ≡ true) × (has bytes place ≢ true))
  pub rest : (was : Latest) (place : ℕ) → Contains old was → has was.bytes place ≡ true → has bytes place ≢ true
      → (now : Latest) × Contains new now × IsSameAccess now was × (has now.bytes place ≡ true)

-- how far it is from a number to the end of so many entries
abbrev pub left_of : (count number : ℕ) → ℕ
left_of count zero = 0
left_of count (suc index) = count - index
