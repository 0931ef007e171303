-- How often a number is in a list, and lists in which each number is once.
use Rattle.std.proofs.Common.{◌≡◌, ℕ, zero, suc, ◌+◌, ◌<◌, ◌≤◌, List, [], ◌∷◌, ◌++◌, length, get_or, refl, arith}
use Rattle.std.proofs.lemmas.Bool.{eq-eqb}
use Rattle.shuffled_phases.specs.Lists.{IsPartOf, times}

pub times-append : (n : ℕ) (list more : List ℕ) → times n (list ++ more) ≡ times n list + times n more
times-append n [] more = omega arith
times-append n (m ∷ list) more = let rest = times-append n list more in omega arith

-- a number is once more in a list that begins with it
pub times-itself : (n : ℕ) (list : List ℕ) → times n (n ∷ list) ≡ suc (times n list)
times-itself n list = let same = eq-eqb n n refl in rw same (omega arith)

-- what is at a place of a list is in it
pub times-at : (list : List ℕ) (place d : ℕ) → place < length list → 0 < times (get_or list place d) list
times-at [] place d below = absurd (omega arith)
times-at (n ∷ list) zero d below = let more = times-itself n list in omega arith
times-at (n ∷ list) (suc place) d below = let more = times-at list place d (omega arith) in omega arith

-- Something holds of each number of a list, and each is there once.
pub record Each (P : ℕ → Type 0) (list : List ℕ) : Type 0 where
  pub once : (n : ℕ) → times n list ≤ 1
  pub holds : (n : ℕ) → 0 < times n list → P n

pub each-none : (P : ℕ → Type 0) → Each P []
each-none P = record { once = λ n. omega arith; holds = λ n some. absurd (omega arith) }

-- of a part of the list too
pub each-part : (P : ℕ → Type 0) (whole part : List ℕ) → IsPartOf whole part → Each P whole → Each P part
each-part P whole part is each =
    record {
      once = λ n. let fewer = is.each n in let one = each.once n in omega arith;
      holds = λ n some. each.holds n (let fewer = is.each n in omega arith);
    }

pub each-like : (P Q : ℕ → Type 0) (list : List ℕ) → ((n : ℕ) → 0 < times n list → P n → Q n) → Each P list → Each Q list
each-like P Q list implies each = record { once = each.once; holds = λ n some. implies n some (each.holds n some) }

pub each-behind : (P : ℕ → Type 0) (prefix rest : List ℕ) → Each P (prefix ++ rest) → Each P rest
each-behind P prefix rest each =
    record {
      once = λ n. let all = times-append n prefix rest in let one = each.once n in omega arith;
      holds = λ n some. each.holds n (let all = times-append n prefix rest in omega arith);
    }

pub each-first : (P : ℕ → Type 0) (n : ℕ) (rest : List ℕ) → Each P (n ∷ rest) → P n
each-first P n rest each = each.holds n (let more = times-itself n rest in omega arith)

-- the first of the list isn't among the others
pub each-rest : (P : ℕ → Type 0) (n : ℕ) (rest : List ℕ) → Each P (n ∷ rest) → Each P rest × (times n rest ≡ 0)
each-rest P n rest each =
    (each-behind P (n ∷ []) rest each, let more = times-itself n rest in let one = each.once n in omega arith)
