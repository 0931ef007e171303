use Rattle.std.proofs.Common.{◌≡◌, ◌≤◌, replicate, vec_len}
use Rattle.std.specs.Vec.{vec_capacity}
use Rattle.schedule_core.specs.declared.seat.Seat.TheVariants.{Idle}
use Rattle.schedule_core.proofs.turns.add_idle.Given as goal

abbrev pub invariant-loop : goal.invariant-loop
invariant-loop l = record { items : l.seats.items ≡ replicate l.counter Idle; len : vec_len l.seats ≡ l.counter; room : l.count ≤ vec_capacity l.seats; capacity : vec_capacity l.seats ≡ vec_capacity l.fn.seats }
