use Rattle.std.proofs.Common.{◌≡◌, All, None, Option, vec_len}
use Rattle.explored_runs.specs.declared.seen_run.SeenRun.{SeenRun}
use Rattle.explored_runs.proofs.slots.empty_slots.Given as goal

abbrev pub invariant-loop : goal.invariant-loop
invariant-loop l = record { len : vec_len l.slots ≡ l.counter; none : All (λ (slot : Option SeenRun). slot ≡ None) l.slots.items }
