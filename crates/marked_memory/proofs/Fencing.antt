-- What is unmarked within a fence is unmarked without it.
use Rattle.std.proofs.Common.{◌≡◌, ◌∙◌, ℕ, Bool, true, false, ◌&&◌, ◌||◌, Option, Some, None, List, [], refl, ap, subst}
use Rattle.std.proofs.Math.Path.{fun_ext}
use Rattle.std.specs.Prelude.{not}
use Rattle.guest_memory.specs.Memory.{Cell, Memory}
use Rattle.guest_memory.specs.declared.perm.Perm.{Perm}
use Rattle.hart.specs.HartState.{HartState}
use Rattle.hart.specs.Next.{Next, Goes, next}
use Rattle.marked_memory.specs.Marks.{Places, is_fetch_marked, is_load_marked, is_marked_by, is_outside, is_store_marked, marked}
use Rattle.marked_memory.specs.Unmarked.{IsUnmarked, RunsUnmarked}
use Rattle.marked_memory.specs.declared.fence.Fence.{Fence}
use Rattle.marked_memory.specs.declared.watch.Watch.{Watch}
use Rattle.marked_memory.proofs.Executing.{Agrees, next_agrees}
use Rattle.marked_memory.proofs.Marking.{marked_cell}

-- the marks without a fence
abbrev unfenced : List ℕ → List Watch → Places
unfenced breakpoints watches = record { breakpoints = breakpoints; watches = watches; fence = None }

-- a fence alone
abbrev only : Option Fence → Places
only fence = record { breakpoints = []; watches = []; fence = fence }

-- the marks within a fence
abbrev within : Option Fence → List ℕ → List Watch → Places
within fence breakpoints watches = record { breakpoints = breakpoints; watches = watches; fence = fence }

no_more : (may is_marked : Bool) → (may && not is_marked) ≡ ((may && not is_marked) && not false)
no_more true true = refl
no_more true false = refl
no_more false is_marked = refl

one_more : (may is_outside is_marked : Bool) → (may && not (is_outside || is_marked)) ≡ ((may && not (false || is_marked)) && not (is_outside || false))
one_more true true true = refl
one_more true true false = refl
one_more true false true = refl
one_more true false false = refl
one_more false is_outside is_marked = refl

abbrev same_perm : Perm → Perm → Type 0
same_perm one other = one ≡ other

composed_perm : (read write execute load store is_outside fetch : Bool)
    → same_perm (record { read = read && not load; write = write && not store; execute = execute && not (is_outside || fetch) }) (record { read = (read && not load) && not false; write = (write && not store) && not false; execute = (execute && not (false || fetch)) && not (is_outside || false) })
composed_perm read write execute load store is_outside fetch =
    ap (λ (may : Bool). record { read = may; write = write && not store; execute = execute && not (is_outside || fetch) }) (no_more read load)
    ∙ ap (λ (may : Bool). record { read = (read && not load) && not false; write = may; execute = execute && not (is_outside || fetch) }) (no_more write store)
    ∙ ap (λ (may : Bool). record { read = (read && not load) && not false; write = (write && not store) && not false; execute = may }) (one_more execute is_outside fetch)

composed_cell : (fence : Option Fence) (breakpoints : List ℕ) (watches : List Watch) (x : ℕ) (cell : Option Cell)
    → marked_cell (within fence breakpoints watches) x cell ≡ marked_cell (only fence) x (marked_cell (unfenced breakpoints watches) x cell)
unfolding is_fetch_marked is_load_marked is_store_marked
composed_cell fence breakpoints watches x None = refl
composed_cell fence breakpoints watches x (Some cell) =
    ap (λ (perm : Perm). Some (record { perm = perm; byte = cell.byte }))
    (composed_perm cell.perm.read cell.perm.write cell.perm.execute (is_load_marked watches x) (is_store_marked watches x) (is_outside fence x) (is_marked_by breakpoints x))

-- a fence is a mark beside the others
composed : (fence : Option Fence) (breakpoints : List ℕ) (watches : List Watch) (memory : Memory)
    → marked (within fence breakpoints watches) memory ≡ marked (only fence) (marked (unfenced breakpoints watches) memory)
unfolding marked
composed fence breakpoints watches memory = fun_ext (λ x. composed_cell fence breakpoints watches x (memory x))

without : (fence : Option Fence) (breakpoints : List ℕ) (watches : List Watch) (hart : HartState) (memory : Memory)
    → IsUnmarked (within fence breakpoints watches) hart memory → IsUnmarked (unfenced breakpoints watches) hart memory
without fence breakpoints watches hart memory is =
    let below = marked (unfenced breakpoints watches) memory in
    let goes : next hart (marked (only fence) below) ≡ Goes is.last_hart is.last_memory = rw (composed fence breakpoints watches memory) at is.goes in
    let agrees = subst (λ (what : Next). Agrees (only fence) below what (next hart below)) goes (next_agrees (only fence) below hart) in
    record { last_hart = is.last_hart; last_memory = agrees.0; goes = agrees.1 }

-- So is what was run.
pub without_fence : (fence : Option Fence) (breakpoints : List ℕ) (watches : List Watch) (hart last_hart : HartState) (memory last_memory : Memory) (count : ℕ)
    → RunsUnmarked (within fence breakpoints watches) hart memory count last_hart last_memory → RunsUnmarked (unfenced breakpoints watches) hart memory count last_hart last_memory
without_fence fence breakpoints watches hart last_hart memory last_memory count is =
    record {
      reached = is.reached;
      unmarked = λ k hart_then memory_then below there. without fence breakpoints watches hart_then memory_then (is.unmarked k hart_then memory_then below there);
    }
