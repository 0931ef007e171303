-- The symbol that covers an address, with one more symbol in the table.
use Rattle.std.proofs.Common.{◌≡◌, ℕ, Bool, true, false, cond, Option, Some, List, [], ◌∷◌, ◌++◌, refl, ap, sym, ◌∙◌, length, take, get_or, ◌+◌, ◌<◌, ◌≤◌, ◌⊎◌, inl, inr, subst, arith}
use Rattle.std.specs.Prelude.{IfSome, filter, option_map, map}
use Rattle.std.proofs.lemmas.Bool.Decides.{nat_tests}
use Rattle.std.specs.Option.{option_map_or}
use Rattle.std.specs.List.{reduce}
use Rattle.std.proofs.lemmas.List.{map-append, append-nil, take_more}
use Rattle.std.proofs.lemmas.List.Elements.{filter-append}
use Rattle.std.proofs.lemmas.List.Sums.{fold_push}
use Rattle.symbols.specs.declared.kept_symbol.KeptSymbol.{KeptSymbol}
use Rattle.symbols.specs.Covering.{covers, covering, first_of_two}
use Rattle.symbols.specs.Kept.{kept_symbols, symbol_in}
use Rattle.symbols.specs.Symbol.{Symbol}

-- what one more item makes of a list
reduce_push : {A : Type 0} (f : A → A → A) (xs : List A) (y : A) → reduce f (xs ++ y ∷ []) ≡ Some (option_map_or (λ x. f x y) (reduce f xs) y)
reduce_push f [] y = refl
reduce_push f (x ∷ xs) y = ap Some (fold_push f x xs y)

pub kept_symbols_more : (strings : List ℕ) (kept : List KeptSymbol) (i : ℕ) (d : KeptSymbol) → i < length kept → kept_symbols strings (take (i + 1) kept) ≡ kept_symbols strings (take i kept) ++ symbol_in strings (get_or kept i d) ∷ []
unfolding kept_symbols
kept_symbols_more strings kept i d inside =
    ap (map (symbol_in strings)) (take_more kept i d inside) ∙ map-append (symbol_in strings) (take i kept) (get_or kept i d ∷ [])

-- one more symbol that covers the address
pub covering_passed : (symbols : List Symbol) (address : ℕ) (symbol : Symbol) → covers address symbol ≡ true → covering (symbols ++ symbol ∷ []) address ≡ Some (option_map_or (λ earlier. first_of_two earlier symbol) (covering symbols address) symbol)
unfolding covering
covering_passed symbols address symbol passes =
    let one : filter (covers address) (symbol ∷ []) ≡ symbol ∷ [] = ap (λ (b : Bool). cond b (symbol ∷ []) []) passes in
    ap (reduce first_of_two) (filter-append (covers address) symbols (symbol ∷ []) ∙ ap (λ xs. filter (covers address) symbols ++ xs) one)
    ∙ reduce_push first_of_two (filter (covers address) symbols) symbol

-- and one that doesn't
pub covering_passed_over : (symbols : List Symbol) (address : ℕ) (symbol : Symbol) → covers address symbol ≡ false → covering (symbols ++ symbol ∷ []) address ≡ covering symbols address
unfolding covering
covering_passed_over symbols address symbol fails =
    let none : filter (covers address) (symbol ∷ []) ≡ [] = ap (λ (b : Bool). cond b (symbol ∷ []) []) fails in
    ap (reduce first_of_two) (filter-append (covers address) symbols (symbol ∷ []) ∙ ap (λ xs. filter (covers address) symbols ++ xs) none ∙ append-nil (filter (covers address) symbols))

-- one more kept symbol that covers the address
pub covering_more-covered : (strings : List ℕ) (kept : List KeptSymbol) (i : ℕ) (d : KeptSymbol) (address : ℕ) (first : Option KeptSymbol) (chosen : KeptSymbol) → i < length kept → option_map (symbol_in strings) first ≡ covering (kept_symbols strings (take i kept)) address → covers address (symbol_in strings (get_or kept i d)) ≡ true → symbol_in strings chosen ≡ option_map_or (λ earlier. first_of_two earlier (symbol_in strings (get_or kept i d))) (option_map (symbol_in strings) first) (symbol_in strings (get_or kept i d)) → option_map (symbol_in strings) (Some chosen) ≡ covering (kept_symbols strings (take (i + 1) kept)) address
covering_more-covered strings kept i d address first chosen inside before passes is =
    ap Some (is ∙ ap (λ (o : Option Symbol). option_map_or (λ earlier. first_of_two earlier (symbol_in strings (get_or kept i d))) o (symbol_in strings (get_or kept i d))) before)
    ∙ sym (covering_passed (kept_symbols strings (take i kept)) address (symbol_in strings (get_or kept i d)) passes)
    ∙ ap (λ (symbols : List Symbol). covering symbols address) (sym (kept_symbols_more strings kept i d inside))

-- and one that doesn't
pub covering_more-left : (strings : List ℕ) (kept : List KeptSymbol) (i : ℕ) (d : KeptSymbol) (address : ℕ) (first : Option KeptSymbol) → i < length kept → option_map (symbol_in strings) first ≡ covering (kept_symbols strings (take i kept)) address → covers address (symbol_in strings (get_or kept i d)) ≡ false → option_map (symbol_in strings) first ≡ covering (kept_symbols strings (take (i + 1) kept)) address
covering_more-left strings kept i d address first inside before fails =
    before
    ∙ sym (covering_passed_over (kept_symbols strings (take i kept)) address (symbol_in strings (get_or kept i d)) fails)
    ∙ ap (λ (symbols : List Symbol). covering symbols address) (sym (kept_symbols_more strings kept i d inside))

-- what holds of the first symbol so far and of the next one holds of the one chosen
pub chosen_holds : (P : KeptSymbol → Type 0) (first : Option KeptSymbol) (chosen next : KeptSymbol) → (chosen ≡ next) ⊎ (first ≡ Some chosen) → P next → IfSome first P → P chosen
chosen_holds P first chosen next (inl is) own before = subst P (sym is) own
chosen_holds P first chosen next (inr is) own before = subst (λ (o : Option KeptSymbol). IfSome o P) is before

-- a symbol that covers an address begins at or below it
pub covers_from_below : (address : ℕ) (symbol : Symbol) → covers address symbol ≡ true → symbol.value ≤ address
covers_from_below address symbol passes = grind (arith, nat_tests, passes)
