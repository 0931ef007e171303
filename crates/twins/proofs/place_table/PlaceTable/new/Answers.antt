use Rattle.std.proofs.Common.{refl}
use Rattle.twins.proofs.Places.{HaveLeaves-none}
use Rattle.twins.proofs.place_table.PlaceTable.new.Goals as goal

pub invariant_of-result : goal.invariant_of-result
invariant_of-result c = record { shape = rw c.new.ensures.items (HaveLeaves-none 1024 refl) }
