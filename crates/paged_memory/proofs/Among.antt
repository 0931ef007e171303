use Rattle.std.proofs.Common.{◌≡◌, ℕ, ◌+◌, ◌<◌, ◌≤◌, true, false, nat_le, nat_lt, sym, ◌∙◌, arith, inl, inr}
use Rattle.std.proofs.lemmas.Bool.{cases_lt, and_from, and_left, and_right, le-leb, lt-leb, lt-ltb, le-ltb}
use Rattle.paged_memory.specs.Mapping.{is_among}

pub is_among-inside : (low count index : ℕ) → low ≤ index → index < low + count → is_among low count index ≡ true
is_among-inside low count index above below = and_from (nat_le low index) (nat_lt index (low + count)) (le-leb low index above) (lt-ltb index (low + count) below)

pub is_among-outside : (low count index : ℕ) → (low ≤ index → low + count ≤ index) → is_among low count index ≡ false
is_among-outside low count index outside =
    elim (cases_lt index low) [
      | inl below ↦ and_left (nat_le low index) (nat_lt index (low + count)) (lt-leb low index below)
      | inr above ↦ and_right (nat_le low index) (nat_lt index (low + count)) (le-ltb index (low + count) (outside above))
    ]

pub is_among-apart : (low count index : ℕ) → (low ≤ index → index < low + count → ⊥) → is_among low count index ≡ false
is_among-apart low count index apart =
    is_among-outside low count index
    (λ above. elim (cases_lt index (low + count)) [ inl within ↦ absurd (apart above within) | inr past ↦ past ])

pub is_among-same : (low index low' index' count : ℕ) →
    (low ≤ index → index < low + count → (low' ≤ index') × (index' < low' + count)) →
    (low' ≤ index' → index' < low' + count → (low ≤ index) × (index < low + count)) →
    is_among low count index ≡ is_among low' count index'
is_among-same low index low' index' count there back =
    elim (cases_lt index low) [
      | inl below ↦ neither (λ above within. absurd (omega arith))
      | inr above ↦ elim (cases_lt index (low + count)) [
        | inl within ↦ (let both : (low' ≤ index') × (index' < low' + count) = there above within in
            is_among-inside low count index above within ∙ sym (is_among-inside low' count index' both.0 both.1))
        | inr past ↦ neither (λ above' within. absurd (omega arith))
      ]
    ]
  where
    neither : (low ≤ index → index < low + count → ⊥) → is_among low count index ≡ is_among low' count index'
    neither outside =
        let outside' : low' ≤ index' → index' < low' + count → ⊥ = λ above within. outside (back above within).0 (back above within).1 in
        is_among-apart low count index outside ∙ sym (is_among-apart low' count index' outside')
