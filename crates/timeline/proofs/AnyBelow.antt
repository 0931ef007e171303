-- What a loop over the numbers below one finds.
use Rattle.std.proofs.Common.{◌≡◌, ◌∙◌, ℕ, zero, suc, ◌+◌, ◌<◌, Bool, true, false, refl, sym, ap, arith, add-one, inl, inr}
use Rattle.std.proofs.lemmas.Bool.{cases_eq}
use Rattle.std.specs.Prelude.{◌||◌}
use Rattle.timeline.specs.Calls.{any_below}

neither : (one other : Bool) → one ≡ false → other ≡ false → (one || other) ≡ false
neither true other one_is other_is = one_is
neither false other one_is other_is = other_is

of_other : (one other : Bool) → other ≡ true → (one || other) ≡ true
of_other true other is = refl
of_other false other is = is

of_one : (one other : Bool) → one ≡ true → (one || other) ≡ true
of_one true other is = refl
of_one false other is = absurd (cc)

-- none below this one
pub none_yet : (test : ℕ → Bool) → any_below test 0 ≡ false
unfolding any_below
none_yet test = refl

pub one_more : (test : ℕ → Bool) (n : ℕ) → any_below test n ≡ false → test n ≡ false → any_below test (n + 1) ≡ false
unfolding any_below
one_more test n none other = ap (any_below test) (add-one n) ∙ neither (any_below test n) (test n) none other

pub found : (test : ℕ → Bool) (k n : ℕ) → k < n → test k ≡ true → any_below test n ≡ true
unfolding any_below
found test k zero below is = absurd (omega arith)
found test k (suc n) below is =
    elim (cases_eq k n) [
      | inl same ↦ of_other (any_below test n) (test n) (rw (sym same) is)
      | inr other ↦ of_one (any_below test n) (test n) (found test k n (omega arith) is)
    ]
