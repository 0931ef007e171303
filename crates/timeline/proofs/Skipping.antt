-- A segment that is run up to a mark.
use Rattle.std.proofs.Common.{◌≡◌, ◌∙◌, ℕ, zero, suc, ◌+◌, ◌<◌, ◌≤◌, Option, Some, None, IfSome, false, refl, sym, ap, arith}
use Rattle.std.specs.Prelude.{is_some}
use Rattle.guest_memory.specs.Memory.{Memory}
use Rattle.hart.specs.HartState.{HartState}
use Rattle.hart.specs.Segment.{after}
use Rattle.hart.specs.Slice.{Runs}
use Rattle.hart.proofs.Segments.{goes_on}
use Rattle.hart.specs.declared.trap.Trap.{Trap}
use Rattle.marked_memory.proofs.Reaching.{last_of}
use Rattle.paged_memory.specs.Snapshot as snapshots
use Rattle.twins.specs.View as views
use Rattle.timeline.proofs.Quieting.{hart_or, memory_or}
use Rattle.timeline.specs.Underway.{IsRoom, IsUnderway, IsSkipped, origin_of}
use Rattle.timeline.specs.declared.present_segment.PresentSegment.{PresentSegment}

below_all : (quantum : Option ℕ) (count more : ℕ) → count ≤ more → IfSome quantum (λ q. more ≤ q) → IfSome quantum (λ q. count ≤ q)
below_all None count more less within = within
below_all (Some q) count more less within = omega arith

-- A segment that has run, and runs more instructions, has run both.
pub further : (hart old_hart last_hart : HartState) (memory old_memory last_memory : Memory) (left : ℕ) (quantum : Option ℕ) (done count : ℕ)
    → Runs hart memory left quantum done old_hart old_memory → after count old_hart old_memory ≡ Some (last_hart, last_memory)
    → done + count ≤ left → IfSome quantum (λ q. done + count ≤ q) → Runs hart memory left quantum (done + count) last_hart last_memory
unfolding after
further hart old_hart last_hart memory old_memory last_memory left quantum done zero runs reached bound within =
    let hart_is : old_hart ≡ last_hart = ap (hart_or old_hart) reached in
    let memory_is : old_memory ≡ last_memory = ap (memory_or old_memory) reached in
    let done_is : done + zero ≡ done = omega arith in
    rw (done_is, sym hart_is, sym memory_is) runs
further hart old_hart last_hart memory old_memory last_memory left quantum done (suc count) runs reached bound within =
    let before = last_of count old_hart old_memory (last_hart, last_memory) reached in
    let so_far =
    further hart old_hart before.0.0 memory old_memory before.0.1 left quantum done count runs before.1 (omega arith)
    (below_all quantum (done + count) (done + suc count) (omega arith) within) in
    let one_more : done + suc count ≡ done + count + 1 = omega arith in
    rw one_more
    (goes_on hart memory left quantum (done + count) (done + suc count) before.0.0 last_hart before.0.1 last_memory so_far (omega arith) bound within before.2)

pub still_below : (quantum : Option ℕ) (done room count : ℕ) → count ≤ room → IfSome quantum (λ q. done + room < q) → IfSome quantum (λ q. done + count < q)
still_below None done room count less within = within
still_below (Some q) done room count less within = omega arith

at_most : (quantum : Option ℕ) (count : ℕ) → IfSome quantum (λ q. count < q) → IfSome quantum (λ q. count ≤ q)
at_most None count within = within
at_most (Some q) count within = omega arith

no_trap : (trap : Option Trap) → is_some trap ≡ false → trap ≡ None
no_trap None none = refl
no_trap (Some trap) none = absurd (cc)

-- where a segment stands that was run up to a mark
pub skipped : (old new : PresentSegment) (until room count : ℕ) → IsUnderway old → is_some old.trap ≡ false → old.done ≤ until → IsRoom old until room → count ≤ room
    → after count old.hart (views.cells_of old.view) ≡ Some (new.hart, views.cells_of new.view)
    → snapshots.cells_of (views.base_of new.view) ≡ snapshots.cells_of (views.base_of old.view)
    → new ≡ record old { hart = new.hart; view = new.view; done = old.done + count } → IsSkipped old until new
skipped old new until room count underway untrapped started is_room less reached base is =
    let none = no_trap old.trap untrapped in
    let bound = is_room.bound none in
    let below = still_below old.work.segment.quantum old.done room count less (is_room.quantum none) in
    let asked = is_room.asked started in
    rw is
    (record {
      underway =
          record {
            stands =
                record {
                  runs =
                      further old.work.segment.hart old.hart new.hart (origin_of old).copy (views.cells_of old.view) (views.cells_of new.view) old.work.segment.left old.work.segment.quantum
                      old.done count underway.stands.runs reached (omega arith) (at_most old.work.segment.quantum (old.done + count) below);
                  within = λ none. omega arith;
                  quantum = λ none. below;
                  is_trap = rw none tt;
                };
            under = underway.under ∙ sym base;
            whole = λ whole. base ∙ underway.whole whole;
          };
      same = refl;
      since = omega arith;
      within = omega arith;
      trap = refl;
    })
