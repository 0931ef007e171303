-- Numbers are read back from their texts.
use Rattle.std.proofs.Common.{◌≡◌, ℕ, zero, suc, ◌-◌, ◌/◌, ◌%◌, ◌^◌, ◌<◌, ◌≤◌, Bool, true, false, ◌==◌, nat_lt, if◌then◌else◌, List, [], ◌∷◌, ◌++◌, refl, ap, ◌∙◌, arith, append_assoc, codes, decimal, pos, negsuc}
use Rattle.std.specs.Fmt.{signed_decimal}
use Rattle.std.specs.Char.{digit_value, digit_char}
use Rattle.std.specs.Str.Parse.{AllDigits, digits_value}
use Rattle.std.proofs.lemmas.Str.{digit_value-digit_char}
use Rattle.std.proofs.lemmas.Str.Parse.{digit_from_value}
use Rattle.std.proofs.lemmas.Int.Digits.{digits_value_push}
use Rattle.std.proofs.lemmas.Fmt.{decimal_is_IsNumeral}
use Rattle.std.proofs.lemmas.Bool.Decides.{nat_tests}
use Rattle.std.proofs.lemmas.Nat.{div_below}
use Rattle.std.proofs.Math.Nat.{pow-suc}
use Rattle.text_output.specs.Digits.{hexadecimal}
use Rattle.disassembler.specs.Operands.{register_text, signed_text}
use Rattle.disassembler.proofs.Separators.{Lacks, before, after, before-append, after-append}

-- a text without its first byte
abbrev pub tail : List ℕ → List ℕ
tail [] = []
tail (byte ∷ bytes) = bytes

abbrev pub register_read : List ℕ → ℕ
register_read text = digits_value 10 (tail text)

-- a text that begins with a minus is a negative number, and 2 ^ 32 more is its word
abbrev pub signed_read : List ℕ → ℕ
signed_read [] = 0
signed_read (byte ∷ bytes) = if byte == 45 then 2 ^ 32 - digits_value 10 bytes else digits_value 10 (byte ∷ bytes)

abbrev pub hexadecimal_read : List ℕ → ℕ
hexadecimal_read text = digits_value 16 (tail (tail text))

digit_is_none : (separator digit : ℕ) → separator < 48 → digit_value digit < 10 → (digit == separator) ≡ false
digit_is_none separator digit low small =
    let range : (48 ≤ digit) × (digit ≤ 57) = digit_from_value digit small in grind (arith, nat_tests)

digits_lack : (separator : ℕ) (digits : List ℕ) → separator < 48 → AllDigits 10 digits → Lacks separator digits
digits_lack separator [] low all = tt
digits_lack separator (digit ∷ digits) low all =
    (digit_is_none separator digit low all.0, digits_lack separator digits low all.1)

pub decimal_lacks : (separator number : ℕ) → separator < 48 → number < 2 ^ 64 → Lacks separator (decimal number)
decimal_lacks separator number low small =
    digits_lack separator (decimal number) low (decimal_is_IsNumeral number small).0.1

pub decimal_back : (number : ℕ) → number < 2 ^ 64 → digits_value 10 (decimal number) ≡ number
decimal_back number small = (decimal_is_IsNumeral number small).1

pub register_lacks : (separator number : ℕ) → separator < 48 → number < 2 ^ 64 → Lacks separator (register_text number)
register_lacks separator number low small =
    let letter : (120 == separator) ≡ false = grind (arith, nat_tests) in (letter, decimal_lacks separator number low small)

pub register_back : (number : ℕ) → number < 2 ^ 64 → register_read (register_text number) ≡ number
register_back number small = decimal_back number small

digits_signed : (digits : List ℕ) → AllDigits 10 digits → signed_read digits ≡ digits_value 10 digits
digits_signed [] all = refl
digits_signed (digit ∷ digits) all = rw (digit_is_none 45 digit (omega arith) all.0)

signed_decimal_back : (positive : Bool) (word : ℕ) → word < 2 ^ 32 → signed_read (signed_decimal (if positive then pos word else negsuc (2 ^ 32 - suc word))) ≡ word
signed_decimal_back true word small =
    let large : word < 2 ^ 64 = omega arith in
    digits_signed (decimal word) (decimal_is_IsNumeral word large).0.1 ∙ decimal_back word large
signed_decimal_back false word small =
    let large : suc (2 ^ 32 - suc word) < 2 ^ 64 = omega arith in
    let value : digits_value 10 (decimal (suc (2 ^ 32 - suc word))) ≡ suc (2 ^ 32 - suc word) = decimal_back (suc (2 ^ 32 - suc word)) large in
    rw value (omega arith)

pub signed_back : (word : ℕ) → word < 2 ^ 32 → signed_read (signed_text word) ≡ word
signed_back word small = signed_decimal_back (nat_lt word (2 ^ 31)) word small

signed_decimal_lacks : (positive : Bool) (separator word : ℕ) → separator < 45 → word < 2 ^ 32 → Lacks separator (signed_decimal (if positive then pos word else negsuc (2 ^ 32 - suc word)))
signed_decimal_lacks true separator word low small = decimal_lacks separator word (omega arith) (omega arith)
signed_decimal_lacks false separator word low small =
    let minus : (45 == separator) ≡ false = grind (arith, nat_tests) in
    (minus, decimal_lacks separator (suc (2 ^ 32 - suc word)) (omega arith) (omega arith))

pub signed_lacks : (separator word : ℕ) → separator < 45 → word < 2 ^ 32 → Lacks separator (signed_text word)
signed_lacks separator word low small = signed_decimal_lacks (nat_lt word (2 ^ 31)) separator word low small

-- an offset and a register, as -8(x6)
abbrev pub of_indirect : (ℕ → ℕ → ℕ) → List ℕ → ℕ
of_indirect make text = make (signed_read (before 40 text)) (register_read (before 41 (after 40 text)))

pub indirect_back : (make : ℕ → ℕ → ℕ) (offset base : ℕ) → offset < 2 ^ 32 → base < 2 ^ 64 → of_indirect make (signed_text offset ++ codes "(" ++ register_text base ++ codes ")") ≡ make offset base
indirect_back make offset base small few =
    let rest : List ℕ = register_text base ++ 41 ∷ [] in
    let joined : signed_text offset ++ codes "(" ++ register_text base ++ codes ")" ≡ signed_text offset ++ 40 ∷ rest = append_assoc (signed_text offset ++ codes "(") (register_text base) (codes ")") ∙ append_assoc (signed_text offset) (codes "(") rest in
    let lacks = signed_lacks 40 offset (omega arith) small in
    let first : before 40 (signed_text offset ++ 40 ∷ rest) ≡ signed_text offset = before-append 40 (signed_text offset) rest lacks in
    let second : after 40 (signed_text offset ++ 40 ∷ rest) ≡ rest = after-append 40 (signed_text offset) rest lacks in
    let inner : before 41 rest ≡ register_text base = before-append 41 (register_text base) [] (register_lacks 41 base (omega arith) few) in
    ap (of_indirect make) joined ∙ ap (λ (t : List ℕ). make (signed_read t) (register_read (before 41 (after 40 (signed_text offset ++ 40 ∷ rest))))) first
    ∙ ap (λ (t : List ℕ). make (signed_read (signed_text offset)) (register_read (before 41 t))) second
    ∙ ap (λ (t : List ℕ). make (signed_read (signed_text offset)) (register_read t)) inner
    ∙ ap (λ (n : ℕ). make n (register_read (register_text base))) (signed_back offset small)
    ∙ ap (make offset) (register_back base few)

pub hexadecimal_back : (count number : ℕ) → number < 16 ^ count → digits_value 16 (hexadecimal count number) ≡ number
unfolding hexadecimal
hexadecimal_back zero number small = omega (arith, small)
hexadecimal_back (suc count) number small =
    let high : digits_value 16 (hexadecimal count (number / 16)) ≡ number / 16 = hexadecimal_back count (number / 16) (div_below number 16 (16 ^ count) (omega arith) (omega (arith, small, pow-suc 16 count))) in
    let low : digit_value (digit_char (number % 16)) ≡ number % 16 = digit_value-digit_char (number % 16) (omega arith) in
    digits_value_push 16 (hexadecimal count (number / 16)) (digit_char (number % 16)) ∙ (rw (high, low) (omega arith))
