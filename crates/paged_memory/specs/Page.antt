use Rattle.std.specs.Prelude.{ℕ, List}
use Rattle.guest_memory.specs.declared.perm.Perm.{Perm}

-- what a page permits, and its bytes
pub record PageValue : Type 0 where
  pub perm : Perm
  pub bytes : List ℕ
