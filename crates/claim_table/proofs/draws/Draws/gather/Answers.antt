use Rattle.std.proofs.Common.{◌≡◌, ◌∙◌, arith, ap, sym, subst, ◌<◌, rules, List, All, map}
use Rattle.claim_table.specs.declared.size.Size.{Size}
use Rattle.claim_table.specs.Logs.{NotesDrawn, tally}
use Rattle.claim_table.specs.Draws.{AreDraws}
use Rattle.claim_table.specs.Seat.{Row, SeatState}
use Rattle.claim_table.proofs.Gathers.{all_numbered, on_ok}
use Rattle.claim_table.proofs.Steps.{gathered, drawn_out}
use Rattle.claim_table.proofs.draws.Draws.gather.Goals as goal

pub returns : goal.returns
returns c =
    let last = c.close_with.ensures.values.2 in
    let kept = last.1.0 in
    let size : c.self.inside.table.shared.key ≡ c.args.self.size = c.self.invariant.0 ∙ ap (λ (r : Row). r.size) c.self.view_is in
    let seats = c.joined-whole.ensures.seats ∙ c.requires.all ∙ sym (ap (λ (z : Size). z.seats) size) in
    let all = tally (map (λ (seat : SeatState). seat.log) c.args.seats.items) in
    let draws : AreDraws c.args.self.size.jobs kept.word0 kept.word1 all = subst (λ (z : Size). AreDraws z.jobs kept.word0 kept.word1 all) size (gathered _ _ _ _ _ all kept last.1.1 seats c.joined-whole.ensures.same) in
    record {
      logs = search rules;
      numbered = on_ok c.logs_of-logs.result (λ each. all_numbered c.args.self c.args.seats.items c.requires.row (subst (λ (seats : List SeatState). All (λ (seat : SeatState). seat.number < seat.row.size.seats) seats) c.as_slice.ensures.value each)) c.logs_of-logs.ensures.numbered;
      notes = on_ok c.logs_of-logs.result (λ each. subst (λ (seats : List SeatState). All (λ (seat : SeatState). NotesDrawn seat.log) seats) c.as_slice.ensures.value each) c.logs_of-logs.ensures.notes;
      draws = (kept.word0, kept.word1, draws);
      complete = drawn_out _ _ _ _ draws;
    }

pub joined-whole-requires-clause-some : goal.joined-whole-requires-clause-some
joined-whole-requires-clause-some c = let size = ap (λ (r : Row). r.size.seats) c.self.view_is in omega (arith, size, c.self.invariant.4, c.requires.all)
