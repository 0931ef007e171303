-- What is appended to a text.
use Rattle.std.specs.Prelude.{◌≡◌, ℕ, ◌++◌, Result, OnOk, List, String, string_bytes}
use Rattle.std.specs.declared.alloc.AllocError.{AllocError}
use Rattle.std.specs.declared.alloc.Global.{Global}

-- The bytes are appended to the text, unless memory ran out.
abbrev pub Appends : Result (Unit {0}) AllocError → String Global → List ℕ → String Global → Type 0
Appends result old bytes new = OnOk result (string_bytes new ≡ string_bytes old ++ bytes)
