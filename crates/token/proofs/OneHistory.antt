-- Of two legal histories one is a prefix of the other.
use Rattle.std.proofs.Common.{◌≡◌, ◌⊎◌, ◌≤◌, [], ◌∷◌, length, refl, ap, sym, inl, inr, arith, subst}
use Rattle.std.proofs.lemmas.Bool.{cases_lt}
use Rattle.token.specs.Setup.{Setup}
use Rattle.token.specs.History.{History, IsPrefix}
use Rattle.token.specs.Legal.{Follows, IsLegal}
use Rattle.token.proofs.OneStep.{one_step}

-- two legal histories of one length
same_length : (setup : Setup) (one other : History) → IsLegal setup one → IsLegal setup other → length one ≡ length other → one ≡ other
unfolding IsLegal
same_length setup [] [] first second same = refl
same_length setup [] (step ∷ before) first second same = absurd (omega arith)
same_length setup (step ∷ before) [] first second same = absurd (omega arith)
same_length setup (one ∷ before) (other ∷ other_before) first second same =
    let prefix : before ≡ other_before = same_length setup before other_before first.1 second.1 (omega arith) in
    let step : one ≡ other = one_step setup before one other first.0 (subst (λ prefix. Follows setup prefix other) (sym prefix) second.0) in
    λ i. step i ∷ prefix i

pub shorter : (setup : Setup) (one other : History) → IsLegal setup one → IsLegal setup other → length one ≤ length other → IsPrefix one other
unfolding IsLegal
shorter setup one [] first second within = ([], sym (same_length setup one [] first second (omega arith)))
shorter setup one (step ∷ before) first second within =
    let longer : length one ≤ length before → IsPrefix one (step ∷ before) =
    λ fits. let prefix = shorter setup one before first second.1 fits in (step ∷ prefix.0, ap (λ steps. step ∷ steps) prefix.1) in
    elim (cases_lt (length before) (length one)) [
      | inl above ↦ ([], sym (same_length setup one (step ∷ before) first second (omega arith)))
      | inr fits ↦ longer fits
    ]

pub one_is_prefix : (setup : Setup) (one other : History) → IsLegal setup one → IsLegal setup other → IsPrefix one other ⊎ IsPrefix other one
one_is_prefix setup one other first second =
    elim (cases_lt (length one) (length other)) [
      | inl below ↦ inl (shorter setup one other first second (omega arith))
      | inr fits ↦ inr (shorter setup other one second first fits)
    ]
