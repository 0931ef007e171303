use Rattle.std.specs.Prelude.{ℕ}
use Rattle.abi.specs.declared.code.Code.{Code}
use Rattle.abi.specs.declared.code.Code.TheVariants.{Done, NoSuchCall, BadArgument, BadAddress, Limit, NotHolder, HoldsLock, NoSuchThread, AlreadyHeld, CountDiffers}

-- the number of a code
abbrev pub number_of : Code → ℕ
number_of Done = 0
number_of NoSuchCall = 1
number_of BadArgument = 2
number_of BadAddress = 3
number_of Limit = 4
number_of NotHolder = 5
number_of HoldsLock = 6
number_of NoSuchThread = 7
number_of AlreadyHeld = 8
number_of CountDiffers = 9
