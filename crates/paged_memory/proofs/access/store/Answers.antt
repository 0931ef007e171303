use Rattle.std.proofs.Common.{◌≡◌, ◌%◌, ◌∙◌, ap, sym}
use Rattle.std.specs.Prelude.{Ok}
use Rattle.paged_memory.specs.Number.{width_of, value_of}
use Rattle.paged_memory.specs.PageMap.{memory_of_pages, IsWritable}
use Rattle.paged_memory.proofs.PageAccesses.{stored-page, inside-page}
use Rattle.paged_memory.proofs.access.store.Goals as goal

pub returns-in-Ok-clause-stores : goal.returns-in-Ok-clause-stores
returns-in-Ok-clause-stores g c =
    let aligned : c.args.address % width_of c.args.number ≡ 0 = rw c.width.ensures at c.if-address-width-ne0.false in
    let writable : IsWritable (g.M.PageMemory.pages c.args.memory.now) c.args.address = c.is_writable.ensures.yes c.if-not-is_writable.false in
    stored-page (g.M.PageMemory.pages c.args.memory.now) (width_of c.args.number) c.args.address (value_of c.args.number) writable aligned (inside-page c.args.number c.args.address aligned)
    ∙ sym (ap (λ pages. Ok (memory_of_pages pages)) c.in-Ok.ensures.written)
