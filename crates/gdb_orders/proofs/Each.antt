-- What the loops over threads and actions find.
use Rattle.std.proofs.Common.{◌≡◌, ◌∙◌, ℕ, zero, suc, ◌+◌, ◌<◌, ◌≤◌, Bool, true, false, Option, Some, None, List, length, drop, slice_index_or, refl, sym, ap, arith, add-one, inl, inr}
use Rattle.std.proofs.lemmas.Bool.{cases_eq}
use Rattle.std.proofs.lemmas.List.{at_drop_more, drop_all}
use Rattle.std.specs.Prelude.{◌==◌, ◌&&◌}
use Rattle.std.specs.List.{list_all, list_any}
use Rattle.std.specs.Option.{option_or}
use Rattle.gdb_packets.specs.declared.action.Action.{Action}
use Rattle.gdb_orders.specs.Orders.{first_of}
use Rattle.gdb_orders.specs.Selections.{has_each}

both : (one other : Bool) → one ≡ true → other ≡ true → (one && other) ≡ true
both true other one_is other_is = other_is
both false other one_is other_is = one_is

not_other : (one other : Bool) → other ≡ false → (one && other) ≡ false
not_other true other is = is
not_other false other is = refl

not_one : (one other : Bool) → one ≡ false → (one && other) ≡ false
not_one true other is = absurd (cc)
not_one false other is = refl

abbrev pub stands : List ℕ → ℕ → Bool
stands numbers count = list_any (λ number. number == count) numbers

pub none_yet : (numbers : List ℕ) → has_each numbers 0 ≡ true
unfolding has_each
none_yet numbers = refl

pub one_more : (numbers : List ℕ) (count : ℕ) → has_each numbers count ≡ true → stands numbers count ≡ true → has_each numbers (count + 1) ≡ true
unfolding has_each
one_more numbers count each here = ap (has_each numbers) (add-one count) ∙ both (has_each numbers count) (stands numbers count) each here

pub one_lacks : (numbers : List ℕ) (lacking count : ℕ) → lacking < count → stands numbers lacking ≡ false → has_each numbers count ≡ false
unfolding has_each
one_lacks numbers lacking zero below lacks = absurd (omega arith)
one_lacks numbers lacking (suc count) below lacks =
    elim (cases_eq lacking count) [
      | inl same ↦ not_other (has_each numbers count) (stands numbers count) (rw (sym same) lacks)
      | inr other ↦ not_one (has_each numbers count) (stands numbers count) (one_lacks numbers lacking count (omega arith) lacks)
    ]

-- the first of the actions that are left, after what was found before
pub found_more : {X : Type 0} (gives : Action → Option X) (actions : List Action) (place : ℕ) (none : Action) (found : Option X) → place < length actions
    → option_or (option_or found (gives (slice_index_or actions place none))) (first_of gives (drop (place + 1) actions)) ≡ option_or found (first_of gives (drop place actions))
unfolding first_of
found_more {X = X} gives actions place none found within = by found ∙ ap (option_or found) (sym (at_drop_more (first_of gives) actions place none within))
  where
    here : Option X
    here = gives (slice_index_or actions place none)

    rest : Option X
    rest = first_of gives (drop (place + 1) actions)

    by : (found : Option X) → option_or (option_or found here) rest ≡ option_or found (option_or here rest)
    by None = refl
    by (Some value) = refl

pub none_left : {X : Type 0} (gives : Action → Option X) (actions : List Action) (place : ℕ) (found : Option X) → length actions ≤ place
    → option_or found (first_of gives (drop place actions)) ≡ found
unfolding first_of
none_left {X = X} gives actions place found past = ap (λ (left : List Action). option_or found (first_of gives left)) (drop_all place actions past) ∙ by found
  where
    by : (found : Option X) → option_or found None ≡ found
    by None = refl
    by (Some value) = refl

-- all that are left pass
pub all_more : (passes : Action → Bool) (actions : List Action) (place : ℕ) (none : Action) → place < length actions → passes (slice_index_or actions place none) ≡ true
    → list_all passes (drop (place + 1) actions) ≡ list_all passes (drop place actions)
all_more passes actions place none within is = sym (at_drop_more (list_all passes) actions place none within ∙ rw is refl)

pub one_fails : (passes : Action → Bool) (actions : List Action) (place : ℕ) (none : Action) → place < length actions → passes (slice_index_or actions place none) ≡ false
    → list_all passes (drop place actions) ≡ false
one_fails passes actions place none within is = at_drop_more (list_all passes) actions place none within ∙ rw is refl

pub all_left : (passes : Action → Bool) (actions : List Action) (place : ℕ) → length actions ≤ place → list_all passes (drop place actions) ≡ true
all_left passes actions place past = ap (list_all passes) (drop_all place actions past)
