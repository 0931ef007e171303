use Rattle.std.proofs.Common.{◌∙◌, sym, subst, refl, arith}
use Rattle.guest_memory.specs.Memory.{Memory}
use Rattle.decoded_code.specs.Code.{HasCode}
use Rattle.decoded_code.proofs.Coding.{code_kept}
use Rattle.paged_memory.specs.Snapshot.{pages_of, cells_of}
use Rattle.twins.specs.View.{base_of, private_of}
use Rattle.twins.specs.View as views
use Rattle.segment.proofs.Coding.{view_keeps}
use Rattle.timeline.proofs.Advancing.{stopped_is}
use Rattle.timeline.proofs.present_segment.PresentSegment.go_on.Goals as goal

pub run_coded_slice-requires-clause-code : goal.run_coded_slice-requires-clause-code
run_coded_slice-requires-clause-code c =
    let view = c.args.self.now.view in
    let code = subst (λ (memory : Memory). HasCode c.code.result.start c.code.result.entries.now memory) c.requires.underway.under c.code.ensures in
    code_kept _ _ (cells_of (base_of view)) (views.cells_of view) code (view_keeps (pages_of (base_of view)) (private_of view) view.twins)

pub stopped-requires : goal.stopped-requires
stopped-requires c =
    let there = c.in_ok-end.ensures.ends _ _ c.requires.underway.stands.runs in
    (rw c.in-Stopped.is at there, λ whole. c.run_coded_slice.ensures.base ∙ c.requires.underway.whole whole)

pub returns-in-Stopped : goal.returns-in-Stopped
returns-in-Stopped c =
    let old = c.args.self.now in
    let there = c.in_ok-end.ensures.ends _ _ c.requires.underway.stands.runs in
    let further = rw c.in-Stopped.is at c.in_ok-end.ensures.further in
    stopped_is old (record old { hart = c.run_coded_slice.new.hart; view = c.run_coded_slice.new.memory }) _ c.args.until c.in-Stopped.count c.in-Stopped.stop c.stopped.result
    c.requires.underway c.requires.goes refl refl (c.requires.underway.under ∙ sym c.run_coded_slice.ensures.base)
    (rw c.in-Stopped.is at there, λ whole. c.run_coded_slice.ensures.base ∙ c.requires.underway.whole whole) (omega (arith, further)) c.stopped.ensures
