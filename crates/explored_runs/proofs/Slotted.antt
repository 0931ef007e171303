-- Slots into which something is put.
use Rattle.std.proofs.Common.{◌≡◌, ◌≢◌, ◌⊎◌, inl, inr, ℕ, ◌<◌, Option, None, List, All, length, slice_index_or, slice_set, sym, subst, arith, get_or-set_same, get_or-set_other}
use Rattle.std.specs.Option.{IfSome}
use Rattle.std.proofs.lemmas.Bool.{cases_eq}
use Rattle.std.proofs.lemmas.List.{length-set}
use Rattle.elf32_reader.specs.LoadImage.{LoadImage}
use Rattle.shuffled_phases.specs.declared.config.Config.{Config}
use Rattle.explored_runs.specs.Batch.{number_at}
use Rattle.explored_runs.specs.Runs.{AreSlots, IsSeen}
use Rattle.explored_runs.specs.declared.batch.Batch.{Batch}
use Rattle.explored_runs.specs.declared.seen_run.SeenRun.{SeenRun}

-- what is in the slot of a place, if anything
abbrev pub IsSlot : LoadImage → (input : List ℕ) → Config → Batch → (place : ℕ) → Option SeenRun → Type 0
IsSlot image input config batch place slot = IfSome slot (λ seen. (seen.number ≡ number_at batch place) × IsSeen image input config seen)

slot_at : (image : LoadImage) (input : List ℕ) (config : Config) (batch : Batch) (slots : List (Option SeenRun)) (place : ℕ) (slot : Option SeenRun) (k : ℕ) (d : Option SeenRun)
    → IsSlot image input config batch place slot → AreSlots image input config batch slots → k < length slots → (k ≡ place) ⊎ (k ≢ place)
    → IsSlot image input config batch k (slice_index_or (slice_set slots place slot) k d)
slot_at image input config batch slots place slot k d is all below (inl same) =
    let Is : ℕ → Type 0 = λ n. IsSlot image input config batch n (slice_index_or (slice_set slots place slot) n d) in
    let within : place < length slots = omega arith in
    subst Is (sym same) (subst (IsSlot image input config batch place) (sym (get_or-set_same slots place slot d within)) is)
slot_at image input config batch slots place slot k d is all below (inr other) =
    subst (IsSlot image input config batch k) (sym (get_or-set_other slots place k slot d other)) (all k d below)

-- something is put into a slot that may be in it
pub slots_put : (image : LoadImage) (input : List ℕ) (config : Config) (batch : Batch) (slots : List (Option SeenRun)) (place : ℕ) (slot : Option SeenRun)
    → IsSlot image input config batch place slot → AreSlots image input config batch slots → AreSlots image input config batch (slice_set slots place slot)
slots_put image input config batch slots place slot is all k d below =
    let long = length-set slots place slot in
    slot_at image input config batch slots place slot k d is all (omega arith) (cases_eq k place)

-- empty slots
pub no_slots : (image : LoadImage) (input : List ℕ) (config : Config) (batch : Batch) (slots : List (Option SeenRun)) → All (λ slot. slot ≡ None) slots
    → AreSlots image input config batch slots
no_slots image input config batch slots none k d below = subst (IsSlot image input config batch k) (sym (none k d below)) tt

-- what was taken out of a slot
pub slot_of : (image : LoadImage) (input : List ℕ) (config : Config) (batch : Batch) (slots : List (Option SeenRun)) (place : ℕ) (slot : Option SeenRun)
    → place < length slots → slot ≡ slice_index_or slots place slot → AreSlots image input config batch slots → IsSlot image input config batch place slot
slot_of image input config batch slots place slot below is all = subst (IsSlot image input config batch place) (sym is) (all place slot below)
