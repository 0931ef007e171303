-- The eight digits that a number is written with, where it is padded with zeros.
use Rattle.std.proofs.Common.{◌≡◌, ℕ, zero, suc, ◌+◌, ◌-◌, ◌/◌, ◌%◌, ◌^◌, ◌<◌, Bool, true, false, List, [], ◌∷◌, ◌++◌, ap, refl, sym, ◌∙◌, ◌==◌, arith, length}
use Rattle.std.specs.Prelude.{replicate}
use Rattle.std.specs.Fmt.{char_count, digit_glyph, digits, digits_onto, format_spec, padded_integral}
use Rattle.std.proofs.lemmas.Bool.{eqb-true, eqb-false}
use Rattle.std.proofs.lemmas.List.{append_assoc, append-nil}
use Rattle.text_output.specs.Digits.{hexadecimal}

-- the digit 0, so many times
abbrev zeros : ℕ → List ℕ
zeros count = replicate count 48

-- one more, before others or after them
zero_more : (count : ℕ) → zeros count ++ (48 ∷ []) ≡ 48 ∷ zeros count
zero_more zero = refl
zero_more (suc count) = ap (λ (more : List ℕ). 48 ∷ more) (zero_more count)

-- the digits of 0
digits_of_zero : (count : ℕ) → hexadecimal count 0 ≡ zeros count
unfolding hexadecimal
digits_of_zero zero = refl
digits_of_zero (suc count) = ap (λ (more : List ℕ). more ++ (48 ∷ [])) (digits_of_zero count) ∙ zero_more count

-- a number's digits before others, with zeros before them up to a width
padded_onto : (most count number : ℕ) (rest : List ℕ) → count < most → number < 16 ^ suc count
    → zeros (suc count + length rest - length (digits_onto most 16 false number rest)) ++ digits_onto most 16 false number rest
    ≡ hexadecimal (suc count) number ++ rest
unfolding hexadecimal
padded_onto zero count number rest low small = absurd (omega arith)
padded_onto (suc most) count number rest low small = go (number / 16 == 0) refl count low small (padded_onto most)
  where
    go : (is_last : Bool) → (number / 16 == 0) ≡ is_last → (count : ℕ) → count < suc most → number < 16 ^ suc count
        → ((count number : ℕ) (rest : List ℕ) → count < most → number < 16 ^ suc count
        → zeros (suc count + length rest - length (digits_onto most 16 false number rest)) ++ digits_onto most 16 false number rest
        ≡ hexadecimal (suc count) number ++ rest)
        → zeros (suc count + length rest - length (digits_onto (suc most) 16 false number rest)) ++ digits_onto (suc most) 16 false number rest
        ≡ hexadecimal (suc count) number ++ rest
    go true last count low small fewer =
        let none : number / 16 ≡ 0 = eqb-true (number / 16) 0 last in
        let room : suc count + length rest - suc (length rest) ≡ count = omega arith in
        rw (last, room, none, digits_of_zero count, append_assoc (zeros count) (digit_glyph false (number % 16) ∷ []) rest) refl
    go false last zero low small fewer =
        let some : number / 16 ≡ 0 → ⊥ = eqb-false (number / 16) 0 last in
        absurd (some (omega arith))
    go false last (suc count) low small fewer =
        let less : number / 16 < 16 ^ suc count = omega arith in
        let before : count < most = omega arith in
        let same : suc (suc count) + length rest ≡ suc count + suc (length rest) = omega arith in
        rw (last, same) (
        fewer count (number / 16) (digit_glyph false (number % 16) ∷ rest) before less
        ∙ sym (append_assoc (hexadecimal (suc count) (number / 16)) (digit_glyph false (number % 16) ∷ []) rest)
        )

-- a text is padded with zeros to eight bytes
padding : (shown : List ℕ) → padded_integral (format_spec 32 0 4 8 (2 ^ 64 - 1)) false [] shown ≡ zeros (8 - length shown) ++ shown
unfolding padded_integral char_count
padding shown =
    let none : 8 - length shown - 0 - 0 ≡ 8 - length shown = omega arith in
    ap (λ (count : ℕ). zeros count ++ (shown ++ [])) none ∙ ap (λ (end : List ℕ). zeros (8 - length shown) ++ end) (append-nil shown)

digits_are : (number : ℕ) → digits 16 false number ≡ digits_onto 64 16 false number []
unfolding digits
digits_are number = refl

-- what {:08x} writes
pub padded : (number : ℕ) → number < 2 ^ 32 → padded_integral (format_spec 32 0 4 8 (2 ^ 64 - 1)) false [] (digits 16 false number) ≡ hexadecimal 8 number
padded number small =
    padding (digits 16 false number)
    ∙ ap (λ (shown : List ℕ). zeros (8 - length shown) ++ shown) (digits_are number)
    ∙ padded_onto 64 7 number [] (omega arith) small
    ∙ append-nil (hexadecimal 8 number)
