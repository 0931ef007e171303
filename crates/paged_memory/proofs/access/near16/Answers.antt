use Rattle.std.proofs.Common.{◌∙◌, arith, sym, ap}
use Rattle.std.specs.Prelude.{Ok}
use Rattle.paged_memory.proofs.PageAccesses.{loaded-page}
use Rattle.paged_memory.proofs.access.near16.Goals as goal

pub returns-in-Some : goal.returns-in-Some
returns-in-Some g c =
    loaded-page (g.M.PageMemory.pages c.args.memory.now) c.args.address 2 c.in-Some.page.now c.in-Some.ensures c.if-address-eq0.true (omega arith)
    ∙ ap Ok (sym c.read16.ensures)
