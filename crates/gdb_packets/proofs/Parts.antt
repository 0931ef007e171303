-- The parts of a text before and behind the first such byte.
use Rattle.std.proofs.Common.{◌≡◌, ◌∙◌, ℕ, ◌+◌, ◌-◌, ◌<◌, ◌≤◌, ◌==◌, Bool, true, false, List, [], ◌∷◌, length, get_or, Option, Some, None, refl, ap, take, drop, arith, length-drop}
use Rattle.std.specs.Prelude.{nat_lt, unwrap_or}
use Rattle.std.specs.List.{position_or_len, slice_split}
use Rattle.std.proofs.lemmas.Bool.Decides.{nat_tests}
use Rattle.std.proofs.lemmas.List.{take_all}
use Rattle.std.proofs.lemmas.List.Splits.{slice_split_first, slice_split_none}
use Rattle.std.proofs.lemmas.List.Sums.{fails_before_first, position_or_len_is}
use Rattle.gdb_packets.specs.Numbers.{parts_at}

is_place : (byte : ℕ) (text : List ℕ) (place : ℕ) → place ≤ length text → ((k : ℕ) → k < place → get_or text k 0 ≡ byte → ⊥)
    → (place < length text → get_or text place 0 ≡ byte) → position_or_len (λ other. other == byte) text ≡ place
is_place byte text place within before there =
    position_or_len_is (λ other. other == byte) text place 0 within
    (λ k below. let apart = before k below in grind (arith, nat_tests, apart))
    (λ below. let same = there below in grind (arith, nat_tests, same))

-- there is none
pub none_there : (byte : ℕ) (text : List ℕ) (end : ℕ) → length text ≤ end → ((k : ℕ) → k < end → get_or text k 0 ≡ byte → ⊥) → None ≡ parts_at byte text
none_there byte text end all before =
    let place = is_place byte text (length text) (omega arith) (λ k below. before k (omega (arith, all, below))) (λ below. absurd (omega (arith, below))) in
    let test : nat_lt (length text) (length text) ≡ false = grind (arith, nat_tests) in
    rw (place, test) refl

-- the first one is at this place
pub first_there : (byte : ℕ) (text : List ℕ) (place : ℕ) → ((k : ℕ) → k < place → get_or text k 0 ≡ byte → ⊥) → place < length text → get_or text place 0 ≡ byte
    → Some (take place text, take (length text - (place + 1)) (drop (place + 1) text)) ≡ parts_at byte text
first_there byte text place before within there =
    let is = is_place byte text place (omega (arith, within)) before (λ below. there) in
    let test : nat_lt place (length text) ≡ true = grind (arith, nat_tests, within) in
    let rest : take (length text - (place + 1)) (drop (place + 1) text) ≡ drop (place + 1) text =
    take_all (length text - (place + 1)) (drop (place + 1) text) (omega (arith, length-drop (place + 1) text)) in
    rw (rest, is, test) refl

-- a text is split at the first one
pub split_there : (byte : ℕ) (text : List ℕ) (before behind : List ℕ) → parts_at byte text ≡ Some (before, behind)
    → (slice_split (λ other. other == byte) text ≡ before ∷ slice_split (λ other. other == byte) behind) × (length behind < length text)
split_there byte text before behind parts = go (nat_lt (position_or_len (λ other. other == byte) text) (length text)) refl
  where
    go : (test : Bool) → nat_lt (position_or_len (λ other. other == byte) text) (length text) ≡ test
        → (slice_split (λ other. other == byte) text ≡ before ∷ slice_split (λ other. other == byte) behind) × (length behind < length text)
    go true is =
        let within : position_or_len (λ other. other == byte) text < length text = grind (arith, nat_tests, is) in
        let both = rw is at parts in
        let first : take (position_or_len (λ other. other == byte) text) text ≡ before = ap (λ (parts : Option (List ℕ × List ℕ)). (unwrap_or parts ([], [])).0) both in
        let rest : drop (position_or_len (λ other. other == byte) text + 1) text ≡ behind = ap (λ (parts : Option (List ℕ × List ℕ)). (unwrap_or parts ([], [])).1) both in (
          slice_split_first (λ other. other == byte) text 0 within ∙ cc (first, rest),
          omega (arith, within, ap length rest, length-drop (position_or_len (λ other. other == byte) text + 1) text),
        )
    go false is = cc (rw is at parts)

-- a text without one isn't split
pub split_none : (byte : ℕ) (text : List ℕ) → parts_at byte text ≡ None → slice_split (λ other. other == byte) text ≡ text ∷ []
split_none byte text parts = go (nat_lt (position_or_len (λ other. other == byte) text) (length text)) refl
  where
    go : (test : Bool) → nat_lt (position_or_len (λ other. other == byte) text) (length text) ≡ test → slice_split (λ other. other == byte) text ≡ text ∷ []
    go true is = cc (rw is at parts)
    go false is =
        let all : length text ≤ position_or_len (λ other. other == byte) text = grind (arith, nat_tests, is) in
        slice_split_none (λ other. other == byte) text (λ k d below. fails_before_first (λ other. other == byte) text k d (omega (arith, all, below)))
