use Rattle.std.proofs.Common.{◌≡◌, ◌^◌, ◌<◌, length, arith}
use Rattle.twins.specs.PrivatePages.{numbers_of, place_with}
use Rattle.twins.proofs.Listed.{length-listed}
use Rattle.twins.proofs.PrivatePages.{numbers-length}
use Rattle.twins.proofs.page_index.PageIndex.reserve.Goals as goal

pub table_of-requires-clause-count : goal.table_of-requires-clause-count
table_of-requires-clause-count c =
    let pages = c.args.pages.now in
    let most : length (numbers_of pages) < 2 ^ 20 =
    length-listed (place_with c.args.self.now.table (numbers_of pages)) (numbers_of pages) c.requires.listed c.args.number c.requires.number c.requires.none in
    let size : length (numbers_of pages) ≡ length pages = numbers-length pages in omega arith
