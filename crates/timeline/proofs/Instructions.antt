-- The next instruction of a segment, as its decoded code has it.
use Rattle.std.proofs.Common.{◌≡◌, ℕ, List, Option, Some, None, refl, sym, subst, inl, inr}
use Rattle.std.specs.Prelude.{option_and_then}
use Rattle.guest_memory.specs.Memory.{Memory, fetched}
use Rattle.decoder.specs.Decoding.{decoded}
use Rattle.decoder.specs.declared.instr.Instr.{Instr}
use Rattle.decoded_code.specs.Code.{HasCode, entry_at, entry_of}
use Rattle.decoded_code.proofs.Coding.{code_kept}
use Rattle.hart.specs.Accesses.{access_of}
use Rattle.hart.specs.HartState.{HartState}
use Rattle.paged_memory.specs.Snapshot as snapshots
use Rattle.twins.specs.View as views
use Rattle.segment.proofs.Coding.{view_keeps}
use Rattle.timeline.specs.Halts.{IsInstr, is_call}
use Rattle.timeline.specs.Underway.{IsUnderway}
use Rattle.timeline.specs.declared.present_segment.PresentSegment.{PresentSegment}

-- the code below a segment's memory is that of the memory
pub code_of : (underway : PresentSegment) (start : ℕ) (entries : List Instr) → IsUnderway underway → HasCode start entries (snapshots.cells_of underway.under) → HasCode start entries (views.cells_of underway.view)
code_of underway start entries is code =
    let base = subst (λ (memory : Memory). HasCode start entries memory) is.under code in
    code_kept _ _ (snapshots.cells_of (views.base_of underway.view)) (views.cells_of underway.view) base
    (view_keeps (snapshots.pages_of (views.base_of underway.view)) (views.private_of underway.view) underway.view.twins)

entry_is : (instr : Option Instr) → IsInstr (Some (entry_of instr)) instr
entry_is None = inr refl
entry_is (Some instr) = refl

pub instr_at : (memory : Memory) (address : ℕ) (entry : Instr) → entry ≡ entry_at memory address → IsInstr (Some entry) (option_and_then decoded (fetched memory address))
unfolding entry_at
instr_at memory address entry is =
    subst (λ (instr : Instr). IsInstr (Some instr) (option_and_then decoded (fetched memory address))) (sym is) (entry_is (option_and_then decoded (fetched memory address)))

pub access_is : (hart : HartState) (found instr : Option Instr) → IsInstr found instr → option_and_then (access_of hart) found ≡ option_and_then (access_of hart) instr
unfolding access_of
access_is hart found None (inl is) = rw is refl
access_is hart found None (inr is) = rw is refl
access_is hart found (Some instr) is = rw is refl

pub call_is : (found instr : Option Instr) → IsInstr found instr → is_call found ≡ is_call instr
call_is found None (inl is) = rw is refl
call_is found None (inr is) = rw is refl
call_is found (Some instr) is = rw is refl
