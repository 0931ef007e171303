use Rattle.std.proofs.Common.{◌≡◌, ◌∙◌, arith, length, refl}
use Rattle.std.proofs.lemmas.Bool.Decides.{nat_tests}
use Rattle.std.proofs.lemmas.List.{nil_from_length, take-append-drop}
use Rattle.gdb_packets.specs.Wire.{sent_of}
use Rattle.gdb_packets.proofs.Printing.{begun, goes_on, over}
use Rattle.gdb_packets.proofs.wire.Wire.print.Goals as goal

pub loop-rest-init : goal.loop-rest-init
loop-rest-init c = record { printing = begun (sent_of c.args.self.now) c.args.text.now; keeps = refl }

pub loop-rest-preserved : goal.loop-rest-preserved
loop-rest-preserved c =
    record {
      printing =
          goes_on (sent_of c.args.self.now) c.args.text.now c.split_at.result.0.now c.split_at.result.1.now (sent_of c.loop-rest.self) (sent_of c.print_part.new.self)
          (rw (c.split_at.ensures.front, c.split_at.ensures.back, take-append-drop _ _) c.loop-rest.invariant.printing) c.in_ok-print_part.ensures.sent;
      keeps = c.print_part.ensures.keeps ∙ c.loop-rest.invariant.keeps;
    }

pub returns-clause-printed : goal.returns-clause-printed
returns-clause-printed c =
    let none : length c.loop-rest.rest.now ≡ 0 = grind (arith, nat_tests, c.is_empty.ensures, c.loop-rest-test.false) in
    over (sent_of c.args.self.now) c.args.text.now (sent_of c.loop-rest.self) (rw (nil_from_length c.loop-rest.rest.now none) at c.loop-rest.invariant.printing)
