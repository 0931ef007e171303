use Rattle.std.specs.Prelude.{◌≡◌, Bool, true, false, Result, Ok, Err, IsOk}
use Rattle.guest_memory.specs.Memory.{Memory}
use Rattle.guest_memory.specs.declared.fault.AccessFault.{AccessFault}
use Rattle.guest_memory.specs.declared.fault.StoreFault.{StoreFault}
use Rattle.guest_memory.specs.declared.fault.StoreFault.TheVariants.{Refused, OutOfMemory}

-- What a store answered, the memory before it, what the store makes of it, and the memory after it: they are
-- as wanted, or nothing has changed. Memory runs out only at a store that is permitted.
abbrev pub Stores : Result (Unit {0}) StoreFault → Memory → Result Memory AccessFault → Memory → Type 0
Stores (Ok done) old wanted new = wanted ≡ Ok new
Stores (Err (Refused fault)) old wanted new = (wanted ≡ Err fault) × (new ≡ old)
Stores (Err (OutOfMemory error)) old wanted new = IsOk wanted × (new ≡ old)

-- whether a near store was made, the memory before it, what the store makes of it, and the memory after it
abbrev pub Puts : Bool → Memory → Result Memory AccessFault → Memory → Type 0
Puts true old wanted new = wanted ≡ Ok new
Puts false old wanted new = new ≡ old

-- whether a store wasn't made because memory ran out
abbrev pub IsOutOfMemory : Result (Unit {0}) StoreFault → Type 0
IsOutOfMemory (Ok done) = ⊥
IsOutOfMemory (Err (Refused fault)) = ⊥
IsOutOfMemory (Err (OutOfMemory error)) = Unit {0}
