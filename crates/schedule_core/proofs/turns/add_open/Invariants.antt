use Rattle.std.proofs.Common.{◌≡◌, ◌≤◌, replicate, vec_len}
use Rattle.std.specs.Vec.{vec_capacity}
use Rattle.schedule_core.specs.declared.slot.Slot.TheVariants.{Open}
use Rattle.schedule_core.proofs.turns.add_open.Given as goal

abbrev pub invariant-loop : goal.invariant-loop
invariant-loop l = record { items : l.slots.items ≡ replicate l.counter Open; len : vec_len l.slots ≡ l.counter; room : l.count ≤ vec_capacity l.slots; capacity : vec_capacity l.slots ≡ vec_capacity l.fn.slots }
