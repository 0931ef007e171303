use Rattle.std.proofs.Common.{◌≡◌, ◌∙◌, ◌+◌, refl, sym, ap, subst, rules}
use Rattle.guest_memory.specs.Memory.{Memory}
use Rattle.decoded_code.specs.Code.{HasCode}
use Rattle.decoded_code.proofs.Coding.{code_kept}
use Rattle.paged_memory.specs.Snapshot as snapshots
use Rattle.twins.specs.View as views
use Rattle.twins.specs.declared.view.View.{View}
use Rattle.segment.proofs.Coding.{view_keeps}
use Rattle.marked_memory.specs.Marks.{Places, places_of}
use Rattle.marked_memory.specs.Unmarked.{RunsUnmarked}
use Rattle.timeline.specs.Halts.{wanted_by}
use Rattle.timeline.specs.Underway.{origin_of}
use Rattle.timeline.proofs.Quieting.{still_by_marks, still_none}
use Rattle.timeline.proofs.Skipping.{skipped}
use Rattle.timeline.proofs.Unmarked.{places_in}
use Rattle.timeline.proofs.present_segment.PresentSegment.skip.Goals as goal

pub run_to_mark-requires : goal.run_to_mark-requires
run_to_mark-requires c =
    let view = c.args.self.now.view in
    let code = subst (λ (memory : Memory). HasCode c.code-code.result.start c.code-code.result.entries.now memory) c.requires.can.underway.under c.code-code.ensures in
    rw c.replace-view.ensures.value
    (code_kept _ _ (snapshots.cells_of (views.base_of view)) (views.cells_of view) code (view_keeps (snapshots.pages_of (views.base_of view)) (views.private_of view) view.twins))

pub returns-then-is_some : goal.returns-then-is_some
returns-then-is_some c = record { skipped = search rules; still = still_none (wanted_by c.args.stops.now) (origin_of c.args.self.now) c.args.self.now.done }

pub returns : goal.returns
returns c =
    let old = c.args.self.now in
    let ran = c.in_ok-ran.ran in
    let new = record old { hart = c.run_to_mark.new.hart; view = ran.view; done = old.done + ran.count } in
    let runs = rw c.replace-view.ensures.value at c.in_ok-ran.ensures.runs in
    let base = c.in_ok-ran.ensures.base ∙ ap (λ (view : View). snapshots.cells_of (views.base_of view)) c.replace-view.ensures.value in
    let wanted = wanted_by c.args.stops.now in
    let same : places_of c.marks.result ≡ places_in wanted = rw (c.marks.ensures.breakpoints, c.marks.ensures.watches) refl in
    record {
      skipped =
          skipped old new c.args.until c.room-most.result ran.count c.requires.can.underway (sym c.is_some.ensures ∙ c.if-is_some.false) c.requires.can.within c.room-most.ensures
          c.in_ok-ran.ensures.within runs.reached base refl;
      still =
          still_by_marks wanted (origin_of old) old.done ran.count old.hart c.run_to_mark.new.hart (views.cells_of old.view) (views.cells_of ran.view)
          c.requires.can.underway.stands.runs.reached c.requires.elsewhere
          (subst (λ (places : Places). RunsUnmarked places old.hart (views.cells_of old.view) ran.count c.run_to_mark.new.hart (views.cells_of ran.view)) same runs);
    }
