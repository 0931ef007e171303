-- Texts before and after a separator.
use Rattle.std.proofs.Common.{◌≡◌, ℕ, false, ◌==◌, if◌then◌else◌, List, [], ◌∷◌, ◌++◌, refl, ap, ◌∙◌, eq-eqb}

-- no byte of a text is the separator
abbrev pub Lacks : ℕ → List ℕ → Type 0
Lacks separator [] = Unit {0}
Lacks separator (byte ∷ bytes) = ((byte == separator) ≡ false) × Lacks separator bytes

-- what stands before the first separator
abbrev pub before : ℕ → List ℕ → List ℕ
before separator [] = []
before separator (byte ∷ bytes) = if byte == separator then [] else byte ∷ before separator bytes

-- what stands after the first separator
abbrev pub after : ℕ → List ℕ → List ℕ
after separator [] = []
after separator (byte ∷ bytes) = if byte == separator then bytes else after separator bytes

pub before-append : (separator : ℕ) (xs ys : List ℕ) → Lacks separator xs → before separator (xs ++ separator ∷ ys) ≡ xs
before-append separator [] ys lacks = rw (eq-eqb separator separator refl)
before-append separator (x ∷ xs) ys lacks = rw lacks.0 (ap (λ (zs : List ℕ). x ∷ zs) (before-append separator xs ys lacks.1))

pub after-append : (separator : ℕ) (xs ys : List ℕ) → Lacks separator xs → after separator (xs ++ separator ∷ ys) ≡ ys
after-append separator [] ys lacks = rw (eq-eqb separator separator refl)
after-append separator (x ∷ xs) ys lacks = rw lacks.0 (after-append separator xs ys lacks.1)

-- what a function makes of the numbers that are read from two texts with a comma between
abbrev pub two : (ℕ → List ℕ → ℕ) → (List ℕ → ℕ) → List ℕ → ℕ
two make read text = make (read (before 44 text)) (after 44 text)

abbrev pub three : (ℕ → ℕ → List ℕ → ℕ) → (List ℕ → ℕ) → (List ℕ → ℕ) → List ℕ → ℕ
three make read next text = two (λ a rest. two (make a) next rest) read text

pub two-joined : (make : ℕ → List ℕ → ℕ) (read : List ℕ → ℕ) (x rest : List ℕ) (a : ℕ) → Lacks 44 x → read x ≡ a → two make read (x ++ 44 ∷ rest) ≡ make a rest
two-joined make read x rest a lacks same =
    ap (λ (t : List ℕ). make (read t) (after 44 (x ++ 44 ∷ rest))) (before-append 44 x rest lacks)
    ∙ ap (λ (t : List ℕ). make (read x) t) (after-append 44 x rest lacks)
    ∙ ap (λ (n : ℕ). make n rest) same

pub three-joined : (make : ℕ → ℕ → List ℕ → ℕ) (read next : List ℕ → ℕ) (x y rest : List ℕ) (a b : ℕ) → Lacks 44 x → Lacks 44 y → read x ≡ a → next y ≡ b → three make read next (x ++ 44 ∷ (y ++ 44 ∷ rest)) ≡ make a b rest
three-joined make read next x y rest a b lx ly ex ey =
    two-joined (λ n t. two (make n) next t) read x (y ++ 44 ∷ rest) a lx ex ∙ two-joined (make a) next y rest b ly ey
