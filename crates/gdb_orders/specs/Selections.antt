-- The threads that gdb has heard of, and those that it means.
use Rattle.std.specs.Prelude.{◌≡◌, ℕ, zero, suc, ◌+◌, ◌-◌, ◌^◌, ◌==◌, ◌&&◌, Bool, true, nat_lt, nat_le, min, max, if◌then◌else◌, Option, Some, None, List, [], ◌∷◌, ◌++◌, length, take, drop, slice_get}
use Rattle.std.specs.List.{list_any}
use Rattle.gdb_orders.specs.declared.selection.Selection.{Selection}

-- A stop of a thread was told: it is meant from now on, and gdb has heard of it.
pub record HasStopped (old new : Selection) (thread : ℕ) : Type 0 where
  pub known : new.known ≡ max old.known (min (thread + 1) (2 ^ 32 - 1))
  pub general : new.general ≡ thread
  pub moving : new.moving ≡ old.moving
  pub stopped : new.stopped ≡ thread
  pub asked : new.asked.items ≡ []

-- whether each number below this one stands in a list
unfoldable pub has_each : List ℕ → ℕ → Bool
has_each numbers zero = true
has_each numbers (suc count) = has_each numbers count && list_any (λ number. number == count) numbers

-- The last of them, as many as are listed, are each listed thread once.
abbrev pub ends_with_each : List ℕ → ℕ → Bool
ends_with_each asked listed = nat_le listed (length asked) && has_each (drop (length asked - listed) asked) listed

-- Those asked for since, with a further one: if the last are each listed thread once, those are forgotten, and of over 1,024 all but this one.
abbrev pub asked_with : List ℕ → ℕ → ℕ → List ℕ
asked_with asked thread listed =
    if ends_with_each (asked ++ thread ∷ []) listed then take (length (asked ++ thread ∷ []) - listed) (asked ++ thread ∷ [])
    else (if nat_lt 1024 (length (asked ++ thread ∷ [])) then thread ∷ [] else asked ++ thread ∷ [])

abbrev pub last_or : ℕ → List ℕ → ℕ
last_or other numbers = one_or other (slice_get numbers (length numbers - 1))
  where
    one_or : ℕ → Option ℕ → ℕ
    one_or other None = other
    one_or other (Some number) = number

-- the thread that a step back means: the one that moves, else the last one asked for, else that of the last stop
abbrev pub stepped_back : Option ℕ → List ℕ → ℕ → ℕ
stepped_back (Some thread) asked stopped = thread
stepped_back None asked stopped = last_or stopped asked
