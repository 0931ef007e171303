use Rattle.std.proofs.Common.{◌≡◌, ◌∙◌, ◌++◌, ◌∷◌, [], ℕ, Option, Some, ap, sym, subst, arith, length-append}
use Rattle.sharing_report.specs.Tallies.{IsLast}
use Rattle.sharing_report.proofs.Adding.{is_new, same_turn, same_turn_count}
use Rattle.sharing_report.proofs.turn_count.TurnCount.add.Goals as goal

pub returns-then-last-turn : goal.returns-then-last-turn
returns-then-last-turn c turns has upto few =
    let last : IsLast (Some c.in-Some.last) turns = rw c.in-Some.is at has.last in
    let apart : Some c.in-Some.last ≡ Some c.args.turn → ⊥ = λ same. let equal : c.in-Some.last ≡ c.args.turn = cc in c.if-last-turn.true equal in
    c.count_new.ensures turns has (is_new (Some c.in-Some.last) turns c.args.turn last upto apart) upto few

pub returns-else-last-turn : goal.returns-else-last-turn
returns-else-last-turn c turns has upto few =
    let was : IsLast (Some c.in-Some.last) turns = rw c.in-Some.is at has.last in
    let last : IsLast (Some c.args.turn) turns = subst (λ (turn : ℕ). IsLast (Some turn) turns) c.if-last-turn.false was in
    let fits = has.fits in record {
      count = has.count ∙ sym (same_turn_count turns c.args.turn last.0);
      fits = omega (arith, length-append turns (c.args.turn ∷ []));
      last = subst (λ (one : Option ℕ). IsLast one (turns ++ c.args.turn ∷ [])) (sym (c.in-Some.is ∙ ap Some c.if-last-turn.false)) (same_turn turns c.args.turn last);
    }
