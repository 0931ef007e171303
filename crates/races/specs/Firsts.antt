-- The first of each kind.
use Rattle.std.specs.Prelude.{if◌then◌else◌, Bool, List, [], ◌∷◌, ◌++◌, fold}
use Rattle.std.specs.List.{list_any}

-- one more, if none of those of before is of its kind
abbrev pub with_new : {A : Type 0} → (A → A → Bool) → List A → A → List A
with_new same kept one = if list_any (same one) kept then kept else kept ++ one ∷ []

-- of those of each kind the first, in their order
abbrev pub firsts : {A : Type 0} → (A → A → Bool) → List A → List A
firsts same all = fold (with_new same) [] all
