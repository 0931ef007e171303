use Rattle.std.proofs.Common.{◌≡◌, ◌∙◌, ◌+◌, ◌*◌, ◌<◌, ◌^◌, true, length, get_or, refl, sym, arith}
use Rattle.std.specs.Char.{digit_value, is_ascii_digit}
use Rattle.gdb_monitor.proofs.Decimals.{one_more, too_large, whole, worth_is}
use Rattle.gdb_monitor.proofs.reading.decimal.Goals as goal

pub returns-in_err-checked_mul : goal.returns-in_err-checked_mul
returns-in_err-checked_mul c =
    c.from_residual.ensures
    ∙ sym (too_large c.args.digits.now c.loop-digit.digit-index c.loop-digit.value _ refl (omega arith) c.loop-digit.invariant (omega (arith, c.in_err-checked_mul.ensures)))

pub returns-in_err-value : goal.returns-in_err-value
returns-in_err-value c =
    let digit : is_ascii_digit (get_or c.args.digits.now c.loop-digit.digit-index 0) ≡ true = cc in
    let worth = worth_is (get_or c.args.digits.now c.loop-digit.digit-index 0) digit in
    c.from_residual-in_err-value.ensures
    ∙ sym
    (too_large c.args.digits.now c.loop-digit.digit-index c.loop-digit.value _ refl (omega arith) c.loop-digit.invariant
    (omega (arith, worth, c.in_err-value.ensures, c.in_ok-checked_mul.ensures, c.from.ensures)))

pub loop-digit-preserved : goal.loop-digit-preserved
loop-digit-preserved c =
    let digit : is_ascii_digit (get_or c.args.digits.now c.loop-digit.digit-index 0) ≡ true = cc in
    let worth = worth_is (get_or c.args.digits.now c.loop-digit.digit-index 0) digit in
    let next : c.in_ok-value.value ≡ c.loop-digit.value * 10 + digit_value (get_or c.args.digits.now c.loop-digit.digit-index 0) =
    omega (arith, worth, c.in_ok-value.ensures, c.in_ok-checked_mul.ensures, c.from.ensures) in
    let small : c.loop-digit.value * 10 + digit_value (get_or c.args.digits.now c.loop-digit.digit-index 0) < 2 ^ 64 = omega (arith, next, c.in_ok-value.ensures) in
    rw next (one_more c.args.digits.now c.loop-digit.digit-index c.loop-digit.value _ refl (omega arith) c.loop-digit.invariant digit small)

pub returns : goal.returns
returns c =
    let end : c.loop-digit.digit-index ≡ length c.args.digits.now = omega arith in
    let some : 0 < length c.args.digits.now = grind arith in
    sym (whole c.args.digits.now c.loop-digit.value some (rw end at c.loop-digit.invariant))
