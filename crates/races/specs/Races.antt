-- The races of a run.
use Rattle.std.specs.Prelude.{◌≡◌, ◌≢◌, ℕ, ◌+◌, ◌*◌, ◌<◌, ◌≤◌, ◌⊎◌, true, false, List, Contains}
use Rattle.races.specs.Before.{at, HappensBefore}
use Rattle.races.specs.Bytes.{has}
use Rattle.races.specs.Steps.{Step, Touch, Order, Renew, IsSameInstruction}
use Rattle.races.specs.declared.race.Race.{Race}
use Rattle.races.specs.declared.site.Access.{Access}
use Rattle.races.specs.declared.site.Site.{Site}

-- an access is of the byte at this place of a word
pub record IsOf (access : Access) (word place : ℕ) : Type 0 where
  pub word_is : access.word ≡ word
  pub has_it : has access.bytes place ≡ true

-- a step begins a new life of the byte at this place of a word
abbrev pub Renews : Step → (word place : ℕ) → Type 0
Renews (Touch access) word place = ⊥
Renews (Order acquired released) word place = ⊥
Renews (Renew address length) word place = (address ≤ word * 4 + place) × (word * 4 + place < address + length)

-- A race: two accesses of different threads with a common byte, at least one of them a store, at least one of them not atomic, of which none
-- happens before the other, in one life of that byte. (The later one never happens before the earlier one.)
pub record AreRacing (steps : List Step) (earlier later : ℕ) (first second : Access) (word place : ℕ) : Type 0 where
  pub first_is : at steps earlier ≡ Touch first
  pub second_is : at steps later ≡ Touch second
  pub order : earlier < later
  pub threads : first.site.thread ≢ second.site.thread
  pub first_of : IsOf first word place
  pub second_of : IsOf second word place
  pub stores : (first.site.is_store ≡ true) ⊎ (second.site.is_store ≡ true)
  pub plain : (first.site.is_atomic ≡ false) ⊎ (second.site.is_atomic ≡ false)
  pub unordered : ¬ HappensBefore steps earlier later
  pub one_life : (between : ℕ) → earlier < between → between < later → ¬ Renews (at steps between) word place

-- two pairs are of the same instructions, in any order
abbrev pub IsSamePair : (first second one other : Site) → Type 0
IsSamePair first second one other =
    (IsSameInstruction first one × IsSameInstruction second other) ⊎ (IsSameInstruction first other × IsSameInstruction second one)

-- two instructions race at a byte
pub record RaceAt (steps : List Step) (first second : Site) (word place : ℕ) : Type 0 where
  pub earlier : ℕ
  pub later : ℕ
  pub one : Access
  pub other : Access
  pub pair : IsSamePair first second one.site other.site
  pub race : AreRacing steps earlier later one other word place

-- A race that is told is one: its two accesses race, at one of its bytes, and its two instructions race at each of them.
pub record IsRace (steps : List Step) (race : Race) : Type 0 where
  pub earlier : ℕ
  pub later : ℕ
  pub one : Access
  pub other : Access
  pub place : ℕ
  pub first_is : one.site ≡ race.first
  pub second_is : other.site ≡ race.second
  pub among : has race.bytes place ≡ true
  pub racing : AreRacing steps earlier later one other race.word place
  pub bytes : (at_place : ℕ) → has race.bytes at_place ≡ true → RaceAt steps race.first race.second race.word at_place

-- a race is of two instructions at a byte
pub record IsToldBy (race : Race) (one other : Site) (word place : ℕ) : Type 0 where
  pub word_is : race.word ≡ word
  pub pair : IsSamePair race.first race.second one other
  pub has_it : has race.bytes place ≡ true

-- The races of a run: each is one, and where two accesses race at a byte, their instructions have a race of that byte.
pub record AreRaces (steps : List Step) (races : List Race) : Type 0 where
  pub sound : (race : Race) → Contains races race → IsRace steps race
  pub complete : (earlier later : ℕ) (one other : Access) (word place : ℕ) → AreRacing steps earlier later one other word place
      → (race : Race) × Contains races race × IsToldBy race one.site other.site word place
