use Rattle.twins.specs.View as views
use Rattle.timeline.proofs.Instructions.{code_of, instr_at}
use Rattle.timeline.proofs.present_segment.PresentSegment.next_instruction.Goals as goal

pub returns-in-Some : goal.returns-in-Some
returns-in-Some c =
    let underway = c.args.self.now in
    let memory = views.cells_of underway.view in
    instr_at memory underway.hart.pc c.in-Some.entry.now
    (rw c.pc-pc.ensures.pc at (c.in-Some.ensures.right memory (code_of underway c.code.result.start c.code.result.entries.now c.requires c.code.ensures)))
