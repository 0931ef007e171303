use Rattle.std.proofs.Common.{◌≡◌, ◌+◌, sym, subst}
use Rattle.std.specs.Prelude.{MatchOption}
use Rattle.twins.specs.PrivatePages.{numbers_of, place_with}
use Rattle.twins.proofs.Indexed.{place_among-position}
use Rattle.twins.proofs.page_index.PageIndex.place.Goals as goal

pub returns-in-None : goal.returns-in-None
returns-in-None c =
    let numbers = numbers_of c.args.pages.now in
    subst (λ table. MatchOption c.place_among.result (place_with table numbers c.args.number ≡ 0) (λ place. place_with table numbers c.args.number ≡ place + 1)) (sym c.in-None.is)
    (place_among-position c.args.pages.now c.args.number c.place_among.result c.place_among.ensures)
