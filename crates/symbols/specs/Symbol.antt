-- A symbol, as it is looked up.
use Rattle.std.specs.Prelude.{ℕ, Bool, List}

-- the name of an object or a function, its first address, its bytes, and whether it is global
pub record Symbol : Type 0 where
  pub name : List ℕ
  pub value : ℕ
  pub size : ℕ
  pub is_global : Bool

-- the objects and the functions of a file, in the order of its table
pub record SymbolLists : Type 0 where
  pub objects : List Symbol
  pub functions : List Symbol
