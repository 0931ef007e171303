use Rattle.std.proofs.Common.{◌∙◌, Some}
use Rattle.twins.specs.View as views
use Rattle.timeline.specs.Halts as halts
use Rattle.timeline.proofs.Instructions.{access_is}
use Rattle.timeline.proofs.present_segment.PresentSegment.access.Goals as goal

pub returns : goal.returns
returns c =
    let underway = c.args.self.now in
    c.of.ensures.access ∙ access_is underway.hart (Some c.in_ok-instr.instr) (halts.next_instr underway.hart (views.cells_of underway.view)) (rw c.in_ok-instr.was at c.next_instruction.ensures)
