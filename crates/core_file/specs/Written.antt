-- What a writer has of a core file.
use Rattle.std.specs.Prelude.{◌≡◌, ℕ, Option, Result, IfErr, OnOk, List}
use Rattle.std.specs.Io.KnownBytes.{Appends}
use Rattle.core_file.specs.declared.core_fault.CoreFault.{CoreFault}
use Rattle.core_file.specs.declared.core_fault.CoreFault.TheVariants.{WriteFailed}

-- The bytes are appended to what the writer has, or it fails.
pub record Writes (result : Result (Unit {0}) CoreFault) (old : Option (List ℕ)) (bytes : List ℕ) (new : Option (List ℕ)) : Type 0 where
  pub written : OnOk result (Appends old new bytes)
  pub failed : IfErr result (λ fault. fault ≡ WriteFailed)
