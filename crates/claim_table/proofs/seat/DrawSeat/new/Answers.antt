use Rattle.claim_table.proofs.Seats.{seat_new}
use Rattle.claim_table.proofs.seat.DrawSeat.new.Goals as goal

pub invariant_of-result : goal.invariant_of-result
invariant_of-result c = rw (c.new.ensures, c.new-2.ensures, c.new-3.ensures) (seat_new c.args.seat.me c.args.number c.requires.0 c.requires.1 c.requires.2)
