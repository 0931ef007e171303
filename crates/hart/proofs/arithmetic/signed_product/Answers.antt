use Rattle.std.proofs.Common.{rules, arith, ◌≡◌, ◌∙◌, ◌*ℤ◌, ◌≤◌, w32, w64, ℤ, FitsSigned, unsigned_abs, lit<}
use Rattle.std.proofs.lemmas.Int.{ints, to_z-of_z, fits_signed_mul}
use Rattle.hart.proofs.arithmetic.signed_product.Goals as goal

abs_fits : (a : ℤ) → FitsSigned w32 a → unsigned_abs a ≤ 2147483648
abs_fits a fits = omega (arith, ints, fits)

widened : (a : ℤ) → FitsSigned w32 a → FitsSigned w64 a
widened a fits = search (rules, ints)

pub returns : goal.returns
returns c =
    let a = c.args.a in
    let b = c.args.b in
    let first : c.from.result ≡ a = c.from.ensures ∙ to_z-of_z w32 a c.ranges.a in
    let second : c.from-2.result ≡ b = c.from-2.ensures ∙ to_z-of_z w32 b c.ranges.b in
    let fits : FitsSigned w64 (a *ℤ b) = fits_signed_mul w64 a b 2147483648 2147483648 (abs_fits a c.ranges.a) (abs_fits b c.ranges.b) (lit< tt) in
    let left = to_z-of_z w64 a (widened a c.ranges.a) in
    let right = to_z-of_z w64 b (widened b c.ranges.b) in
    let whole = to_z-of_z w64 (a *ℤ b) fits in
    rw (first, second, left, right, whole) at c.cast_unsigned.ensures
