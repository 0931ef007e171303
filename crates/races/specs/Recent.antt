-- The accesses that were told lately.
use Rattle.std.specs.Prelude.{◌≡◌, ◌≢◌, ℕ, ◌<◌, ◌≤◌, ◌⊎◌, true, List, Contains, length}
use Rattle.races.specs.Before.{at}
use Rattle.races.specs.Clocks.{time_kept}
use Rattle.races.specs.Bytes.{has}
use Rattle.races.specs.Races.{IsOf, Renews}
use Rattle.races.specs.Steps.{Step, IsSameInTurn}
use Rattle.races.specs.Steps.Step.{Touch}
use Rattle.races.specs.declared.clocks.Clocks.{Clocks}
use Rattle.races.specs.declared.clock_owner.ClockOwner.{ClockOwner}
use Rattle.races.specs.declared.clock_owner.ClockOwner.TheVariants.{Thread}
use Rattle.races.specs.declared.recent.Recent.{Recent}
use Rattle.races.specs.declared.site.Access.{Access}
use Rattle.races.specs.declared.site.Site.{Site}
use Rattle.races.specs.declared.recent_access.RecentAccess.{RecentAccess}

-- an access has no bytes but those of another, by the same instruction of the thread in the same turn
pub record IsWithin (access other : Access) : Type 0 where
  pub site_is : IsSameInTurn other.site access.site
  pub word_is : other.word ≡ access.word
  pub bytes : (place : ℕ) → has access.bytes place ≡ true → has other.bytes place ≡ true

-- a slot of an access, with the bytes of one of before that counts, of the same instruction and word; step 0 stands for none
pub record IsJoined (old : List RecentAccess) (since : ℕ) (access : Access) (slot : RecentAccess) : Type 0 where
  pub was : RecentAccess
  pub there : (was.step ≡ 0) ⊎ Contains old was
  pub counts : since ≤ was.step
  pub site_is : IsSameInTurn was.access.site access.site
  pub word_is : was.access.word ≡ access.word
  pub bytes : (place : ℕ) → has slot.access.bytes place ≡ true → (has was.access.bytes place ≡ true) ⊎ (has access.bytes place ≡ true)

-- a slot is of an access that was noted
pub record IsNotedIn (old : List RecentAccess) (since : ℕ) (access : Access) (step : ℕ) (slot : RecentAccess) : Type 0 where
  pub step_is : slot.step ≡ step
  pub site_is : slot.access.site ≡ access.site
  pub word_is : slot.access.word ≡ access.word
  pub bytes : (slot.access.bytes ≡ access.bytes) ⊎ IsJoined old since access slot

-- after an access was noted, a slot is this access's, one of before, or empty
abbrev pub IsSlotOf : List RecentAccess → (since : ℕ) → Access → (step : ℕ) → RecentAccess → Type 0
IsSlotOf old since access step slot = IsNotedIn old since access step slot ⊎ ((slot.step ≡ 0) ⊎ Contains old slot)

-- the byte at a place of a word was accessed at a step that counts, by this instruction in this turn
pub record WasAccessed (steps : List Step) (since : ℕ) (site : Site) (word place : ℕ) : Type 0 where
  pub made : ℕ
  pub access : Access
  pub counts : since ≤ made
  pub is : at steps made ≡ Touch access
  pub site_is : IsSameInTurn access.site site
  pub of : IsOf access word place

-- the bytes of an access are among those of a slot that counts
abbrev pub IsRecent : Recent → Access → Type 0
IsRecent recent access = (slot : RecentAccess) × Contains recent.slots.items slot × IsWithin access slot.access × (recent.since ≤ slot.step)

-- Those that count are accesses of the steps. Since the first of them no byte has begun a new life, and no other place has one of them in its past.
pub record KnowsRecent (recent : Recent) (clocks : Clocks) (steps : List Step) : Type 0 where
  pub begun : 0 < recent.since
  pub past : (slot : RecentAccess) → Contains recent.slots.items slot → slot.step < length steps
  pub told : (slot : RecentAccess) (place : ℕ) → Contains recent.slots.items slot → recent.since ≤ slot.step → has slot.access.bytes place ≡ true → WasAccessed steps recent.since slot.access.site slot.access.word place
  pub lives : (later word place : ℕ) → recent.since ≤ later → ¬ Renews (at steps later) word place
  pub apart : (place : ClockOwner) (thread : ℕ) → place ≢ Thread thread → time_kept clocks place thread ≤ recent.since
