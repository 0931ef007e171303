use Rattle.std.proofs.Common.{◌≡◌, ℕ, suc, ◌+◌, ◌-◌, ◌*◌, ◌/◌, ◌%◌, ◌^◌, ◌<◌, [], ◌∷◌, ◌++◌, ap, ◌∙◌, arith}
use Rattle.std.specs.Char.{digit_char}
use Rattle.std.proofs.lemmas.Nat.{shr-shr}
use Rattle.text_output.specs.Digits.{hexadecimal}

-- one digit more, at a lower place
pub hexadecimal-more : (count place number : ℕ) → place < count → hexadecimal (count - place) (number / 2 ^ (4 * place)) ≡ hexadecimal (count - (place + 1)) (number / 2 ^ (4 * (place + 1))) ++ digit_char (number / 2 ^ (4 * place) % 16) ∷ []
unfolding hexadecimal
hexadecimal-more count place number low =
    let more : count - place ≡ suc (count - (place + 1)) = omega arith in
    let above : number / 2 ^ (4 * place) / 16 ≡ number / 2 ^ (4 * place + 4) = shr-shr number (4 * place) 4 in
    let next : 4 * place + 4 ≡ 4 * (place + 1) = omega arith in
    ap (λ (n : ℕ). hexadecimal n (number / 2 ^ (4 * place))) more
    ∙ ap (λ (n : ℕ). hexadecimal (count - (place + 1)) n ++ digit_char (number / 2 ^ (4 * place) % 16) ∷ []) (above ∙ ap (λ (k : ℕ). number / 2 ^ k) next)

-- no digit
pub hexadecimal-none : (count number : ℕ) → hexadecimal (count - count) number ≡ []
unfolding hexadecimal
hexadecimal-none count number =
    let none : count - count ≡ 0 = omega arith in rw none
