use Rattle.std.proofs.Common.{◌≡◌, All, length}
use Rattle.std.specs.Arc.{arc_value}
use Rattle.phase_workers.proofs.caller_channels.CallerChannels.offer_all.Given as goal

abbrev pub invariant-loop-seat : goal.invariant-loop-seat
invariant-loop-seat g l = All (λ seat. seat.row ≡ (arc_value l.shared).phase.row) l.seats.items

abbrev pub decreases-loop-seat : goal.decreases-loop-seat
decreases-loop-seat g l = length l.seats.items
