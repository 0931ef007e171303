use Rattle.std.proofs.Common.{◌≡◌, length, arith}
use Rattle.std.proofs.lemmas.Bool.Decides.{nat_tests}
use Rattle.std.proofs.lemmas.List.{nil_from_length}
use Rattle.gdb_packets.proofs.Pairs.{all_read}
use Rattle.gdb_packets.proofs.digits.bytes_of_digits.Goals as goal

pub returns : goal.returns
returns c =
    let none : length c.loop-rest.rest.now ≡ 0 = grind (arith, nat_tests, c.is_empty.ensures, c.loop-rest-test.false) in
    all_read c.loop-rest.bytes.items c.loop-rest.rest.now c.args.digits.now (nil_from_length c.loop-rest.rest.now none) c.loop-rest.invariant
