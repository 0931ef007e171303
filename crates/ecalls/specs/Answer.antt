-- What a completed call leaves in a hart.
use Rattle.std.specs.Prelude.{ℕ, List, Option, Some, None}
use Rattle.abi.specs.declared.code.Code.{Code}
use Rattle.abi.specs.Codes.{number_of}
use Rattle.hart.specs.HartState.{HartState, with_register, next_pc}

-- the registers with a value in x11, where there is one
abbrev pub with_value : List ℕ → Option ℕ → List ℕ
with_value registers None = registers
with_value registers (Some value) = with_register registers 11 value

-- the hart after its call: the code's number in x10, the value, where there is one, in x11, and pc after the ecall
unfoldable pub finished : HartState → Code → Option ℕ → HartState
finished hart code value =
    record { registers = with_value (with_register hart.registers 10 (number_of code)) value; pc = next_pc hart }
