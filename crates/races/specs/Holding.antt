-- Which locks are held.
use Rattle.std.specs.Prelude.{ℕ, ◌==◌, ◌&&◌, if◌then◌else◌, nat_lt, not, Bool, true, false, Option, Some, None, List, [], ◌∷◌, fold, map, filter, position, remove}
use Rattle.races.specs.declared.called_hint.CalledHint.{CalledHint}
use Rattle.races.specs.declared.held_lock.HeldLock.{HeldLock}
use Rattle.races.specs.declared.hint_kind.HintKind.{HintKind}
use Rattle.races.specs.declared.hint_kind.HintKind.TheVariants.{Lock, Share, TryLock, TryShare, Unlock}
use Rattle.races.specs.declared.holding.Holding.{Holding}
use Rattle.races.specs.declared.library_call.LibraryCall.{LibraryCall}

-- a thread holds an object
abbrev pub has : (thread object : ℕ) → Holding → Bool
has thread object holding = (holding.call.thread == thread) && (holding.lock.object == object)

-- two threads can't hold both at once
abbrev pub excludes : HeldLock → HeldLock → Bool
excludes lock other = (lock.object == other.object) && not (lock.is_shared && other.is_shared)

-- a thread takes a lock: nobody holds one that it excludes any more
abbrev pub with_taken : HeldLock → LibraryCall → List Holding → List Holding
with_taken lock call held = record { lock = lock; call = call } ∷ filter (λ one. not (excludes lock one.lock)) held

abbrev pub with_lock : Bool → List Holding → CalledHint → List Holding
with_lock is_shared held hint = with_taken (record { object = hint.object; is_shared = is_shared }) hint.call held

-- a thread lets a lock go: of several holdings of one object, the latest
abbrev pub without : List Holding → Option ℕ → List Holding
without held None = held
without held (Some index) = remove held index

abbrev pub without_lock : List Holding → CalledHint → List Holding
without_lock held hint = without held (position (has hint.call.thread hint.object) held)

-- what is held after a hint, the latest first
abbrev pub held_by : HintKind → List Holding → CalledHint → List Holding
held_by Lock held hint = with_lock false held hint
held_by TryLock held hint = with_lock false held hint
held_by Share held hint = with_lock true held hint
held_by TryShare held hint = with_lock true held hint
held_by Unlock held hint = without_lock held hint
held_by kind held hint = held

abbrev pub held_after : List Holding → CalledHint → List Holding
held_after held hint = held_by hint.kind held hint

-- what is held after some hints
abbrev pub held_in : List CalledHint → List Holding
held_in hints = fold held_after [] hints

-- the locks that a thread holds
abbrev pub locks_of : (thread : ℕ) → List Holding → List HeldLock
locks_of thread held = map (λ one. one.lock) (filter (λ one. one.call.thread == thread) held)

-- the holder of an object: of several threads that share it the first in number, by its earliest holding
abbrev pub lower : Option LibraryCall → Holding → Option LibraryCall
lower None holding = Some holding.call
lower (Some best) holding = if nat_lt best.thread holding.call.thread then Some best else Some holding.call

abbrev pub holder_of : List Holding → (object : ℕ) → Option LibraryCall
holder_of held object = fold lower None (filter (λ one. one.lock.object == object) held)
