use Rattle.std.proofs.Common.{◌<◌, length, arith, take}
use Rattle.std.specs.Char.{digit_value}
use Rattle.std.proofs.lemmas.List.{take_more}
use Rattle.std.proofs.lemmas.List.Elements.{All-push}
use Rattle.gdb_packets.proofs.Values.{kept_more}
use Rattle.gdb_packets.proofs.numbers.number.Goals as goal

pub loop-byte-preserved : goal.loop-byte-preserved
loop-byte-preserved c =
    let within : c.loop-byte.byte-index < length c.args.digits.now = omega arith in
    let more = take_more c.args.digits.now c.loop-byte.byte-index 0 within in
    rw more (record {
      all = All-push (λ digit. digit_value digit < 16) (take c.loop-byte.byte-index c.args.digits.now) _ c.loop-byte.invariant.all c.in_ok-digit.ensures.0;
      value = kept_more (take c.loop-byte.byte-index c.args.digits.now) _ c.in_ok-digit.digit c.loop-byte.value c.with_digit-value.result c.in_ok-digit.ensures.1 c.loop-byte.invariant.value c.with_digit-value.ensures;
    })
