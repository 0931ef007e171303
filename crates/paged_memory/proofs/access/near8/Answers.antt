use Rattle.std.proofs.Common.{◌∙◌, arith, sym, ap, add-zero}
use Rattle.std.specs.Prelude.{Ok}
use Rattle.paged_memory.proofs.PageAccesses.{loaded-page}
use Rattle.paged_memory.proofs.access.near8.Goals as goal

pub returns : goal.returns
returns g c =
    loaded-page (g.M.PageMemory.pages c.args.memory.now) c.args.address 1 c.in_ok-page.page.now c.in_ok-page.ensures (omega arith) (omega arith)
    ∙ ap Ok (sym (c.read8.ensures ∙ sym (add-zero _)))
