use Rattle.std.proofs.Common.{◌≡◌, ℕ, Result, Ok, Err, IsOk, refl}
use Rattle.guest_memory.specs.Memory.{Memory}
use Rattle.guest_memory.specs.declared.fault.AccessFault.{AccessFault}
use Rattle.guest_memory.specs.declared.fault.StoreFault.TheVariants.{OutOfMemory}
use Rattle.hart.specs.HartState.{HartState, with_pc}
use Rattle.hart.specs.Next.{stores, Goes, written}
use Rattle.hart.proofs.state.Hart.store.Goals as goal

-- a store that is permitted goes on
goes_on : (hart : HartState) (address : ℕ) (wanted : Result Memory AccessFault) → IsOk wanted → (next : HartState) × (memory : Memory) × (stores hart address wanted ≡ Goes next memory)
unfolding stores
goes_on hart address (Ok memory) ok = (written hart 0 0, memory, refl)
goes_on hart address (Err fault) ok = absurd (cc)

pub returns-in-Err-OutOfMemory-clause-flows : goal.returns-in-Err-OutOfMemory-clause-flows
returns-in-Err-OutOfMemory-clause-flows c =
    λ pc before after wanted answered.
    let fault : c.in-Err-OutOfMemory.field-0 ≡ OutOfMemory c.in-Err-OutOfMemory.error = rw c.in-Err-OutOfMemory.is at c.in-Err-OutOfMemory.field-0-is in
    let refused = rw (c.in-Err-OutOfMemory.is, fault) at answered in
    (goes_on (with_pc c.args.self.now pc) c.args.address wanted refused.0, refl, refused.1)
