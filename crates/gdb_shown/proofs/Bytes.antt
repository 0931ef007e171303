-- How the bytes from an address on go on and end.
use Rattle.std.proofs.Common.{◌≡◌, ◌∙◌, ℕ, zero, suc, ◌+◌, ◌-◌, ◌<◌, ◌≤◌, ◌^◌, Bool, true, false, if◌then◌else◌, Option, Some, None, List, [], ◌∷◌, ◌++◌, refl, sym, ap, arith, append_assoc, append-nil}
use Rattle.std.specs.Prelude.{nat_lt}
use Rattle.std.proofs.lemmas.Bool.Decides.{nat_tests}
use Rattle.gdb_shown.specs.Memory.{bytes_from}

either : (test : Bool) (bytes : List ℕ) → (if test then bytes else bytes) ≡ bytes
either true bytes = refl
either false bytes = refl

pub unmapped : (read : ℕ → Option ℕ) (address count : ℕ) → read address ≡ None → bytes_from read address count ≡ []
unfolding bytes_from
unmapped read address zero is = refl
unmapped read address (suc count) is = rw is (either (nat_lt address (2 ^ 32)) [])

pub beyond : (read : ℕ → Option ℕ) (address count : ℕ) → 2 ^ 32 ≤ address → bytes_from read address count ≡ []
unfolding bytes_from
beyond read address zero far = refl
beyond read address (suc count) far = let test : nat_lt address (2 ^ 32) ≡ false = grind (arith, nat_tests) in rw test refl

pub none_left : (read : ℕ → Option ℕ) (address count : ℕ) → count ≡ 0 → bytes_from read address count ≡ []
unfolding bytes_from
none_left read address count is = rw is refl

mapped : (read : ℕ → Option ℕ) (address offset length byte : ℕ) → address < 2 ^ 32 → read address ≡ Some byte → offset < length
    → bytes_from read address (length - offset) ≡ byte ∷ bytes_from read (address + 1) (length - (offset + 1))
unfolding bytes_from
mapped read address offset length byte fits is more =
    let one : length - offset ≡ suc (length - (offset + 1)) = omega arith in
    let test : nat_lt address (2 ^ 32) ≡ true = grind (arith, nat_tests) in
    rw (one, test, is) refl

-- the bytes so far with those that are to come are all
abbrev pub AreBytes : (ℕ → Option ℕ) → ℕ → ℕ → List ℕ → ℕ → Type 0
AreBytes read start length bytes offset = bytes ++ bytes_from read (start + offset) (length - offset) ≡ bytes_from read start length

pub one_more : (read : ℕ → Option ℕ) (start length : ℕ) (bytes : List ℕ) (offset byte : ℕ) → AreBytes read start length bytes offset
    → start + offset < 2 ^ 32 → read (start + offset) ≡ Some byte → offset < length → AreBytes read start length (bytes ++ byte ∷ []) (offset + 1)
one_more read start length bytes offset byte so_far fits is more =
    let next : start + (offset + 1) ≡ start + offset + 1 = omega arith in
    rw (next, append_assoc) (ap (λ (rest : List ℕ). bytes ++ rest) (sym (mapped read (start + offset) offset length byte fits is more)) ∙ so_far)

pub all_there : (read : ℕ → Option ℕ) (start length : ℕ) (bytes : List ℕ) (offset : ℕ) → AreBytes read start length bytes offset
    → bytes_from read (start + offset) (length - offset) ≡ [] → bytes ≡ bytes_from read start length
all_there read start length bytes offset so_far none = sym (append-nil bytes) ∙ ap (λ (rest : List ℕ). bytes ++ rest) (sym none) ∙ so_far
