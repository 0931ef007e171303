use Rattle.std.proofs.Common.{◌∙◌, arith, sym, ap, add-zero}
use Rattle.std.specs.Prelude.{Ok}
use Rattle.paged_memory.proofs.PageAccesses.{loaded-page}
use Rattle.paged_memory.proofs.access.load8.Goals as goal

pub returns-in-Some : goal.returns-in-Some
returns-in-Some g c =
    rw (loaded-page (g.M.PageMemory.pages c.args.memory.now) c.args.address 1 c.in-Some.page.now (sym c.in-Some.ensures) (omega arith) (omega arith))
    (ap Ok (c.read8.ensures ∙ sym (add-zero _)))
