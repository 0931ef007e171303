-- A log is taken from the end of a list of seats.
use Rattle.std.proofs.Common.{◌≡◌, ◌<◌, List, [], ◌∷◌, ◌++◌, map, length, get_or, sym, refl, ap, ◌∙◌, subst, arith, length-append}
use Rattle.std.proofs.lemmas.List.{map-append, get_or_append_left, get_or_push}
use Rattle.std.specs.Prelude.{All, OnOk, Result, Ok, Err}
use Rattle.atomic_table.specs.Seated.{TableId}
use Rattle.claim_table.specs.declared.log.Log.{Log}
use Rattle.claim_table.specs.Logs.{Tally, tally, both, IsSame}
use Rattle.claim_table.specs.Seat.{Row, SeatState}
use Rattle.claim_table.proofs.Steps.{begins_last, takes_last}

abbrev logs_of : List SeatState → List Log
logs_of seats = map (λ (seat : SeatState). seat.log) seats

split_logs : (all rest : List SeatState) (last : SeatState) → all ≡ rest ++ last ∷ [] → logs_of all ≡ logs_of rest ++ last.log ∷ []
split_logs all rest last is = ap logs_of is ∙ map-append (λ (seat : SeatState). seat.log) rest (last ∷ [])

pub gather_first : (all rest : List SeatState) (last : SeatState) (log : Log) → all ≡ rest ++ last ∷ [] → log ≡ last.log → IsSame (tally (log ∷ logs_of rest)) (tally (logs_of all))
gather_first all rest last log is same = rw (split_logs all rest last is, same) (begins_last last.log (logs_of rest))

pub gather_next : (seats rest : List SeatState) (last : SeatState) (log whole new : Log) (all : Tally) → seats ≡ rest ++ last ∷ [] → log ≡ last.log → new ≡ both whole log
    → IsSame (tally (whole ∷ logs_of seats)) all → IsSame (tally (new ∷ logs_of rest)) all
gather_next seats rest last log whole new all is same joined was =
    rw (joined, same) (takes_last whole last.log (logs_of rest) all (subst (λ (ls : List Log). IsSame (tally (whole ∷ ls)) all) (split_logs seats rest last is) was))

-- what holds of each seat holds of the last and of the others
pub rows_split : (table : TableId) (all rest : List SeatState) (last : SeatState) → all ≡ rest ++ last ∷ [] → All (λ (seat : SeatState). seat.row.table ≡ table) all
    → All (λ (seat : SeatState). seat.row.table ≡ table) rest × (last.row.table ≡ table)
rows_split table all rest last is each =
    let both : All (λ (seat : SeatState). seat.row.table ≡ table) (rest ++ last ∷ []) = subst (All (λ (seat : SeatState). seat.row.table ≡ table)) is each in (
      λ k d below. ap (λ (seat : SeatState). seat.row.table) (sym (get_or_append_left rest (last ∷ []) d k below)) ∙ both k d (let e = length-append rest (last ∷ []) in omega arith),
      ap (λ (seat : SeatState). seat.row.table) (sym (get_or_push rest last last (length rest) refl)) ∙ both (length rest) last (let e = length-append rest (last ∷ []) in omega arith),
    )

-- the numbers of a row's seats are below how many it has
pub all_numbered : (row : Row) (seats : List SeatState) → All (λ (seat : SeatState). seat.row ≡ row) seats → All (λ (seat : SeatState). seat.number < seat.row.size.seats) seats
    → All (λ (seat : SeatState). seat.number < row.size.seats) seats
all_numbered row seats are numbered = λ place d below. subst (λ (r : Row). (get_or seats place d).number < r.size.seats) (are place d below) (numbered place d below)

pub on_ok : {A E P Q : Type 0} (result : Result A E) → (P → Q) → OnOk result P → OnOk result Q
on_ok (Ok value) then held = then held
on_ok (Err error) then held = held
