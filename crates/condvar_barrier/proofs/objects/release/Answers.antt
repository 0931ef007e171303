use Rattle.std.proofs.Common.{◌≡◌, ◌<◌, length, None, ap, sym, ◌∙◌, arith, true, false, Bool, Option, if◌then◌else◌, slice_index_or, slice_set, ℕ}
use Rattle.std.proofs.lemmas.List.{get_or_default}
use Rattle.std.proofs.lemmas.List.Edits.{map_over_more}
use Rattle.condvar_barrier.specs.Objects.{is_held_by}
use Rattle.condvar_barrier.specs.Rows.{released_by}
use Rattle.condvar_barrier.proofs.objects.release.Goals.{then-is_held_by, else-is_held_by}
use Rattle.condvar_barrier.proofs.objects.release.Goals as goal

released : (thread : ℕ) (holder : Option ℕ) → is_held_by thread holder ≡ true → released_by thread holder ≡ None
released thread holder held = ap (λ (is : Bool). if is then None else holder) held

kept : (thread : ℕ) (holder : Option ℕ) → is_held_by thread holder ≡ false → released_by thread holder ≡ holder
kept thread holder held = ap (λ (is : Bool). if is then None else holder) held

pub loop-holder-preserved : goal.loop-holder-preserved
loop-holder-preserved c =
    let holder : Option ℕ = slice_index_or c.loop-holder.holders c.loop-holder.holder-index None in
    let within : c.loop-holder.holder-index < length c.loop-holder.holders = omega arith in
    let more = map_over_more (released_by c.args.thread) c.args.holders.now c.loop-holder.holders c.loop-holder.holder-index holder
    c.loop-holder-test.true c.loop-holder.invariant (get_or_default c.loop-holder.holders c.loop-holder.holder-index None holder within) in
    elim c.if-is_held_by.branch [
      | then-is_held_by w ↦
          w.holders-is ∙ ap (slice_set c.loop-holder.holders c.loop-holder.holder-index) (sym (released c.args.thread holder (sym c.is_held_by.ensures ∙ w.if-is_held_by.true))) ∙ more
      | else-is_held_by w ↦
          w.holders-is ∙ ap (slice_set c.loop-holder.holders c.loop-holder.holder-index) (sym (kept c.args.thread holder (sym c.is_held_by.ensures ∙ w.if-is_held_by.false))) ∙ more
    ]
