-- Locks that threads take in several orders.
use Rattle.std.specs.Prelude.{◌≡◌, ℕ, ◌<◌, ◌==◌, ◌&&◌, ◌||◌, if◌then◌else◌, not, nat_lt, Bool, true, false, Some, List, [], ◌∷◌, ◌++◌, Any, Contains, filter, length, map, slice_get}
use Rattle.std.specs.Bool.{beq}
use Rattle.std.specs.List.{list_any}
use Rattle.std.specs.Cmp.Lexicographic.{pointwise}
use Rattle.races.specs.Firsts.{firsts}
use Rattle.races.specs.Holding.{excludes, held_after, locks_of}
use Rattle.races.specs.declared.acquisition.Acquisition.{Acquisition}
use Rattle.races.specs.declared.called_hint.CalledHint.{CalledHint}
use Rattle.races.specs.declared.crossings.Crossings.{Crossings}
use Rattle.races.specs.declared.held_lock.HeldLock.{HeldLock}
use Rattle.races.specs.declared.hint_kind.HintKind.{HintKind}
use Rattle.races.specs.declared.hint_kind.HintKind.TheVariants.{Lock, Share}
use Rattle.races.specs.declared.holding.Holding.{Holding}
use Rattle.races.specs.declared.library_call.LibraryCall.{LibraryCall}
use Rattle.races.specs.declared.order_fault.OrderFault.{OrderFault}

-- a thread takes a lock while it holds others
pub record Acquired : Type 0 where
  pub call : LibraryCall
  pub object : ℕ
  pub held : List HeldLock

abbrev pub told : Acquisition → Acquired
told acquisition = record { call = acquisition.call; object = acquisition.object; held = acquisition.held.items }

-- a lock was taken by a call that would have waited
abbrev pub waits : HintKind → Bool
waits Lock = true
waits Share = true
waits kind = false

abbrev pub is_of : (object : ℕ) → HeldLock → Bool
is_of object lock = lock.object == object

abbrev pub holds : List HeldLock → (object : ℕ) → Bool
holds held object = list_any (is_of object) held

-- A hint adds to the order: its call would have waited, and its thread holds other locks and not this one.
abbrev pub is_ordering : List HeldLock → CalledHint → Bool
is_ordering held hint = waits hint.kind && nat_lt 0 (length held) && not (holds held hint.object)

abbrev pub acquired_with : List HeldLock → CalledHint → List Acquired
acquired_with held hint = if is_ordering held hint then record { call = hint.call; object = hint.object; held = held } ∷ [] else []

abbrev pub acquired_at : List Holding → CalledHint → List Acquired
acquired_at held hint = acquired_with (locks_of hint.call.thread held) hint

-- the acquisitions that add to the order, of some hints
abbrev pub acquired_from : List Holding → List CalledHint → List Acquired
acquired_from held [] = []
acquired_from held (hint ∷ hints) = acquired_at held hint ++ acquired_from (held_after held hint) hints

abbrev pub acquired_in : List CalledHint → List Acquired
acquired_in hints = acquired_from [] hints

-- a gate: a lock because of which two threads can't be at these places at once
abbrev pub have_gate : (held others : List HeldLock) → Bool
have_gate held others = list_any (λ lock. list_any (excludes lock) others) held

-- Two acquisitions are crossed: two threads, each of which takes a lock that the other one holds, without a gate.
abbrev pub are_crossed : Acquired → Acquired → Bool
are_crossed first second =
    holds second.held first.object && not (first.call.thread == second.call.thread) && holds first.held second.object && not (have_gate first.held second.held)

-- the same lock by the same thread with the same held locks
abbrev pub are_same_locks : HeldLock → HeldLock → Bool
are_same_locks lock other = (lock.object == other.object) && beq lock.is_shared other.is_shared

abbrev pub are_alike : Acquired → Acquired → Bool
are_alike own other = (own.call.thread == other.call.thread) && (own.object == other.object) && pointwise are_same_locks own.held other.held

-- what is told of two acquisitions that are crossed
abbrev pub fault_of : Acquired → Acquired → OrderFault
fault_of first second = record { held = second.object; taken = first.object; first = first.call; second = second.call }

-- both are of the same two locks
abbrev pub is_same_pair : OrderFault → OrderFault → Bool
is_same_pair fault other = ((fault.held == other.held) && (fault.taken == other.taken)) || ((fault.held == other.taken) && (fault.taken == other.held))

-- those of an acquisition with the earlier ones
abbrev pub faults_at : List Acquired → Acquired → List OrderFault
faults_at before second = map (λ first. fault_of first second) (filter (λ first. are_crossed first second) before)

abbrev pub crossings_from : (before after : List Acquired) → List OrderFault
crossings_from before [] = []
crossings_from before (second ∷ after) = faults_at before second ++ crossings_from (before ++ second ∷ []) after

-- the faults: of those of each two locks the first, by the later acquisition and then by the earlier one
abbrev pub faults_in : List Acquired → List OrderFault
faults_in acquired = firsts is_same_pair (crossings_from [] acquired)

-- a fault is of two acquisitions that are crossed
pub record IsCrossing (acquired : List Acquired) (fault : OrderFault) : Type 0 where
  pub earlier : ℕ
  pub later : ℕ
  pub first : Acquired
  pub second : Acquired
  pub order : earlier < later
  pub first_is : slice_get acquired earlier ≡ Some first
  pub second_is : slice_get acquired later ≡ Some second
  pub crossed : are_crossed first second ≡ true
  pub told_is : fault ≡ fault_of first second

-- The faults of the acquisitions: each is one, and if two acquisitions are crossed, there is one of their two locks.
pub record AreFaults (acquired : List Acquired) (faults : List OrderFault) : Type 0 where
  pub list : faults ≡ faults_in acquired
  pub sound : (fault : OrderFault) → Contains faults fault → IsCrossing acquired fault
  pub complete : (earlier later : ℕ) (first second : Acquired) → earlier < later → slice_get acquired earlier ≡ Some first → slice_get acquired later ≡ Some second
      → are_crossed first second ≡ true → Any (λ fault. is_same_pair (fault_of first second) fault ≡ true) faults

-- what is kept is of some acquisitions
pub record KnowsCrossings (crossings : Crossings) (acquired : List Acquired) : Type 0 where
  pub kept : map told crossings.kept.items ≡ firsts are_alike acquired
  pub faults : crossings.faults.items ≡ faults_in acquired
