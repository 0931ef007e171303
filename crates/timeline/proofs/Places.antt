-- The first watch that passes, as a loop finds it.
use Rattle.std.proofs.Common.{◌≡◌, ◌∙◌, ℕ, ◌+◌, ◌<◌, ◌≤◌, Bool, true, false, if◌then◌else◌, Option, Some, None, List, [], length, drop, slice_index_or, refl, sym, ap}
use Rattle.std.proofs.lemmas.List.{at_drop_more, drop_all, nil_from_length}
use Rattle.marked_memory.specs.declared.watch.Watch.{Watch}
use Rattle.timeline.specs.Halts.{access_event, first_from}
use Rattle.hart.specs.declared.memory_access.MemoryAccess.{MemoryAccess}

chosen : (test : Bool) (one other : Option ℕ) → test ≡ false → (if test then one else other) ≡ other
chosen true one other is = absurd (cc)
chosen false one other is = refl

taken : (test : Bool) (one other : Option ℕ) → test ≡ true → (if test then one else other) ≡ one
taken true one other is = refl
taken false one other is = absurd (cc)

pub passed_over : (passes : Watch → Bool) (watches : List Watch) (place : ℕ) (none : Watch) → place < length watches → passes (slice_index_or watches place none) ≡ false
    → first_from passes (place + 1) (drop (place + 1) watches) ≡ first_from passes place (drop place watches)
unfolding first_from
passed_over passes watches place none within is =
    sym
    (at_drop_more (first_from passes place) watches place none within
    ∙ chosen (passes (slice_index_or watches place none)) (Some place) (first_from passes (place + 1) (drop (place + 1) watches)) is)

pub found : (passes : Watch → Bool) (watches : List Watch) (place : ℕ) (none : Watch) → place < length watches → passes (slice_index_or watches place none) ≡ true
    → Some place ≡ first_from passes place (drop place watches)
unfolding first_from
found passes watches place none within is =
    sym
    (at_drop_more (first_from passes place) watches place none within
    ∙ taken (passes (slice_index_or watches place none)) (Some place) (first_from passes (place + 1) (drop (place + 1) watches)) is)

pub none_left : (passes : Watch → Bool) (watches : List Watch) (place : ℕ) → length watches ≤ place → None ≡ first_from passes place (drop place watches)
unfolding first_from
none_left passes watches place past = sym (ap (first_from passes place) (drop_all place watches past))

pub no_event : (access : Option MemoryAccess) → None ≡ access_event [] access
unfolding first_from
no_event None = refl
no_event (Some access) = refl

pub nothing_watched : (watches : List Watch) (access : Option MemoryAccess) → length watches ≡ 0 → None ≡ access_event watches access
nothing_watched watches access none = rw (nil_from_length watches none) (no_event access)
