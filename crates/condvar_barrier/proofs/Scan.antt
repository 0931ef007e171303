-- A loop that looks for something in each element of a list, as far as it has come.
use Rattle.std.proofs.Common.{◌≡◌, ℕ, zero, suc, ◌+◌, ◌<◌, ◌≤◌, Option, Some, None, List, [], ◌∷◌, ◌++◌, length, length-append, take, get_or, refl, sym, ◌∙◌, ap, arith}
use Rattle.std.specs.Option.{option_to_list}
use Rattle.std.specs.List.{filter_map, cons_option}
use Rattle.std.proofs.lemmas.List.{take_more}
use Rattle.std.proofs.lemmas.List.Elements.{filter_map-append}

module _ {X Y : Type 0} (found : X → Option Y) where
  found_alone : (what : Option Y) → cons_option what [] ≡ option_to_list what
  found_alone None = refl
  found_alone (Some y) = refl

  -- one element more
  pub filter_map-more : (xs : List X) (i : ℕ) (d : X) {what : Option Y} → i < length xs → what ≡ found (get_or xs i d)
      → filter_map found (take (i + 1) xs) ≡ filter_map found (take i xs) ++ option_to_list what
  filter_map-more xs i d within is =
      ap (filter_map found) (take_more xs i d within) ∙ filter_map-append found (take i xs) (get_or xs i d ∷ [])
      ∙ ap (λ (rest : List Y). filter_map found (take i xs) ++ rest) (found_alone (found (get_or xs i d)) ∙ ap option_to_list (sym is))

  -- what a loop collects has been found in the elements up to its index
  pub record Collects (xs : List X) (i : ℕ) (ys : List Y) : Type 0 where
    pub items : ys ≡ filter_map found (take i xs)
    pub few : length ys ≤ i

  few_more : (what : Option Y) → length (option_to_list what) ≤ 1
  few_more None = omega arith
  few_more (Some y) = omega arith

  pub Collects-more : (xs : List X) (i : ℕ) (d : X) (ys more : List Y) (what : Option Y) → i < length xs → what ≡ found (get_or xs i d)
      → Collects xs i ys → more ≡ ys ++ option_to_list what → Collects xs (i + 1) more
  Collects-more xs i d ys more what within is collects grown = record {
    items = grown ∙ rw collects.items (sym (filter_map-more xs i d within is));
    few = rw (grown, length-append) (let one : length (option_to_list what) ≤ 1 = few_more what in let few : length ys ≤ i = collects.few in omega arith);
  }

  none_of_cons : (what : Option Y) (rest : List Y) → cons_option what rest ≡ [] → what ≡ None
  none_of_cons None rest h = refl
  none_of_cons (Some y) rest h = absurd (cc)

  -- the first that is found, where nothing was found before
  pub take-first_found : (xs : List X) (i : ℕ) (d : X) {y : Y} → i < length xs → filter_map found (take i xs) ≡ [] → Some y ≡ found (get_or xs i d)
      → y ∷ [] ≡ take 1 (filter_map found xs)
  take-first_found [] i d within before is = absurd (omega arith)
  take-first_found (x ∷ xs) zero d within before is = rw (← is) refl
  take-first_found (x ∷ xs) (suc i) d within before is =
      let none : found x ≡ None = none_of_cons (found x) (filter_map found (take i xs)) before in
      rw none (take-first_found xs i d (omega arith) (rw none at before) is)
