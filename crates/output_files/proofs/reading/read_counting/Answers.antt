use Rattle.std.proofs.Common.{◌++◌, take, OnErr, Result, Ok, Err, List, ℕ, arith, length, ◌+◌, ◌≤◌, length-append, length-take, rules, vec_len}
use Rattle.std.proofs.lemmas.Grind.{common_steps}
use Rattle.std.specs.Io.KnownBytes.{Consumes}
use Rattle.std.proofs.KnownBytes.{Consumes-trans}
use Rattle.output_files.proofs.reading.read_counting.Goals as goal

-- what holds anyway holds beside an error
on_err : {A E P : Type 0} (r : Result A E) → P → OnErr r P
on_err (Ok _) p = tt
on_err (Err _) p = p

-- the piece was taken, although there was no room for it
pub returns-in_err-extend_from_slice-clause-err : goal.returns-in_err-extend_from_slice-clause-err
returns-in_err-extend_from_slice-clause-err g c =
    let before = g.R.Read.remaining c.args.reader.now in
    let after = g.R.Read.remaining c.read_piece.new.reader in
    let bytes = c.pieces.bytes.items ++ take c.in_ok-count.count c.read_piece.new.piece in
    let room : c.in_ok-count.count + vec_len c.pieces.bytes ≤ c.args.limit + 1 = first_of (search rules, grind (arith, common_steps)) in
    let short : length bytes ≤ c.args.limit + 1 = simp (length-append, length-take) (omega (arith, c.pieces.bytes.ok.0, room)) in
    let consumed : Consumes before after bytes = Consumes-trans _ _ _ _ _ c.pieces.invariant.1 c.in_ok-count.ensures.bytes in
    let given : (taken : List ℕ) × (length taken ≤ c.args.limit + 1) × Consumes before after taken = (bytes, short, consumed) in
    on_err _ given
