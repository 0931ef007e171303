-- What memory of the host a call takes.
use Rattle.std.specs.Prelude.{ℕ, ◌+◌, ◌≤◌, Bool, min, length, Vec, vec_capacity}
use Rattle.abi.specs.Calls.{is_change, kind_in, memory_use}
use Rattle.abi.specs.Limits as limit
use Rattle.abi.specs.declared.call.Call.{Call}
use Rattle.abi.specs.declared.call.Call.TheVariants as call
use Rattle.std.specs.declared.alloc.Global.{Global}

-- whether a call may change the shared memory
abbrev pub changes_memory : Call → Bool
changes_memory asked = is_change (memory_use (kind_in asked))

-- a call takes no memory of the host: it doesn't change the shared memory, and the output has room for what it writes
abbrev pub HasRoom : Vec ℕ Global → Call → Type 0
HasRoom output (call.Exit status) = Unit {0}
HasRoom output (call.ThreadExit value) = Unit {0}
HasRoom output (call.Create entry argument stack_pointer) = Unit {0}
HasRoom output (call.Join thread) = Unit {0}
HasRoom output (call.Lock mutex) = Unit {0}
HasRoom output (call.Unlock mutex) = Unit {0}
HasRoom output (call.Wait condition mutex) = Unit {0}
HasRoom output (call.Signal condition) = Unit {0}
HasRoom output (call.Broadcast condition) = Unit {0}
HasRoom output (call.Barrier barrier count) = Unit {0}
HasRoom output (call.Write address count) = length output.items + min count limit.transfer ≤ vec_capacity output
HasRoom output (call.Read address length) = ⊥
HasRoom output (call.Memory pages) = ⊥
HasRoom output call.Sync = Unit {0}
HasRoom output (call.Release address pages) = ⊥
HasRoom output (call.Unknown number) = Unit {0}
