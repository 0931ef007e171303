use Rattle.std.proofs.Common.{◌≡◌, ◌^◌, ◌<◌, sym, ◌∙◌, arith}
use Rattle.std.specs.Prelude.{slice_index}
use Rattle.twins.specs.PlaceTable.{place_of}
use Rattle.twins.specs.PrivatePages.{numbers_of}
use Rattle.twins.proofs.Listed.{place_among-nothing}
use Rattle.twins.proofs.PrivatePages.{number-read}
use Rattle.twins.proofs.Indexed.{table-more}
use Rattle.twins.proofs.page_index.table_of.Goals as goal

pub loop-place-init : goal.loop-place-init
loop-place-init c number = c.new-table.ensures number ∙ sym (place_among-nothing number)

pub reserve-requires : goal.reserve-requires
reserve-requires c =
    let small : slice_index (numbers_of c.args.pages.now) c.loop-place.place < 2 ^ 20 = c.requires.listed.known c.loop-place.place in
    let here : slice_index (numbers_of c.args.pages.now) c.loop-place.place ≡ c.index-pages-place.result.number =
    number-read c.args.pages.now c.loop-place.place c.index-pages-place.result (omega arith) c.index-pages-place.is in omega arith

pub loop-place-preserved : goal.loop-place-preserved
loop-place-preserved c =
    table-more c.args.pages.now c.loop-place.place c.index-pages-place.result (place_of c.loop-place.table) (place_of c.set.new.self)
    c.requires.listed (omega arith) c.index-pages-place.is c.loop-place.invariant c.set.ensures.set
    (λ other apart. c.set.ensures.others other apart ∙ c.in_ok-reserve.ensures.same other)
