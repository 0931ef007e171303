use Rattle.std.proofs.Common.{Some, ap, refl, sym}
use Rattle.observed_run.specs.Events.{access_of}
use Rattle.observed_run.proofs.Instructions.{access_anywhere}
use Rattle.observed_run.proofs.instruction_event.access_of.Goals as goal

pub returns-in-Some : goal.returns-in-Some
unfolding access_of
returns-in-Some c = rw (access_anywhere c.args.hart.now c.args.pc c.args.instr.now, sym c.of.ensures.access, c.in-Some.is) (ap Some c.made_by.ensures)

pub returns-in-None : goal.returns-in-None
unfolding access_of
returns-in-None c = rw (access_anywhere c.args.hart.now c.args.pc c.args.instr.now, sym c.of.ensures.access, c.in-None.is) refl
