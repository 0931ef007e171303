use Rattle.std.proofs.Common.{ℕ, zero, suc}
use Rattle.std.specs.Prelude.{◌≡◌, slice_index, replicate, refl}
use Rattle.paged_memory.proofs.page.Page.zeros.Goals as goal

replicate-zero : (count index : ℕ) → slice_index (replicate count 0) index ≡ 0
replicate-zero zero index = refl
replicate-zero (suc count) zero = refl
replicate-zero (suc count) (suc index) = replicate-zero count index

pub returns-clause-bytes : goal.returns-clause-bytes
returns-clause-bytes c = replicate-zero 4096
