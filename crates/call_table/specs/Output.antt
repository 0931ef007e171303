-- What is appended to the output.
use Rattle.std.specs.Prelude.{◌≡◌, ℕ, ◌+◌, ◌++◌, ◌≤◌, Result, IsOk, OnOk, OnErr, length, Vec, vec_capacity}
use Rattle.std.specs.declared.alloc.AllocError.{AllocError}
use Rattle.std.specs.declared.alloc.Global.{Global}
use Rattle.guest_memory.specs.Memory.{Memory}
use Rattle.call_table.specs.Effects.{bytes_of}

-- The bytes of a range are appended, or memory ran out and nothing changed. It doesn't run out where there is room for them.
pub record Appends (result : Result (Unit {0}) AllocError) (old : Vec ℕ Global) (memory : Memory) (address count : ℕ) (new : Vec ℕ Global) : Type 0 where
  pub done : OnOk result (new.items ≡ old.items ++ bytes_of memory address count)
  pub kept : OnErr result (new.items ≡ old.items)
  pub succeeds : length old.items + count ≤ vec_capacity old → IsOk result
