-- Which call a hart makes at an ecall.
use Rattle.std.specs.Prelude.{ℕ, Option, Some, None, List, [], ◌∷◌}
use Rattle.abi.specs.Calls.{kind_of}
use Rattle.abi.specs.declared.call.Call.{Call}
use Rattle.abi.specs.declared.call.Call.TheVariants as call
use Rattle.abi.specs.declared.call_kind.CallKind.{CallKind}
use Rattle.abi.specs.declared.call_kind.CallKind.TheVariants.{Exit, ThreadExit, Create, Join, Lock, Unlock, Wait, Signal, Broadcast, Barrier, Write, Read, Memory, Sync, Release}
use Rattle.hart.specs.HartState.{HartState, register}

-- a call of the call table, with what the three argument registers hold
abbrev pub with_arguments : CallKind → ℕ → ℕ → ℕ → Call
with_arguments Exit first second third = call.Exit first
with_arguments ThreadExit first second third = call.ThreadExit first
with_arguments Create first second third = call.Create first second third
with_arguments Join first second third = call.Join first
with_arguments Lock first second third = call.Lock first
with_arguments Unlock first second third = call.Unlock first
with_arguments Wait first second third = call.Wait first second
with_arguments Signal first second third = call.Signal first
with_arguments Broadcast first second third = call.Broadcast first
with_arguments Barrier first second third = call.Barrier first second
with_arguments Write first second third = call.Write first second
with_arguments Read first second third = call.Read first second
with_arguments Memory first second third = call.Memory first
with_arguments Sync first second third = call.Sync
with_arguments Release first second third = call.Release first second

-- the call of a number, of which the call table has this one or none
abbrev pub requested : ℕ → Option CallKind → ℕ → ℕ → ℕ → Call
requested number None first second third = call.Unknown number
requested number (Some kind) first second third = with_arguments kind first second third

-- what the argument registers hold
abbrev pub argument_registers : HartState → List ℕ
argument_registers hart = register hart 10 ∷ register hart 11 ∷ register hart 12 ∷ []

-- the call of a hart: its number stands in x17, its arguments in x10, x11 and x12
unfoldable pub call_of : HartState → Call
call_of hart = requested (register hart 17) (kind_of (register hart 17)) (register hart 10) (register hart 11) (register hart 12)
