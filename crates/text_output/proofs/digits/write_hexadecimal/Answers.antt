use Rattle.std.proofs.Common.{◌≡◌, ◌+◌, ◌-◌, ◌<◌, arith, rules, append_assoc}
use Rattle.std.proofs.lemmas.Grind.{common_steps}
use Rattle.text_output.proofs.Hexadecimal.{hexadecimal-more, hexadecimal-none}
use Rattle.text_output.proofs.digits.write_hexadecimal.Goals as goal

pub loop-place-init : goal.loop-place-init
loop-place-init c = grind (arith, common_steps, hexadecimal-none)

pub loop-place-preserved : goal.loop-place-preserved
loop-place-preserved c =
    let low : c.loop-place.place - 1 < c.args.count = omega arith in
    let same : c.loop-place.place - 1 + 1 ≡ c.loop-place.place = omega arith in
    let more = hexadecimal-more c.args.count (c.loop-place.place - 1) c.args.number low in
    let next = rw same at more in
    rw next (search (rules, append_assoc))
