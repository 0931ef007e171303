use Rattle.std.proofs.Common.{◌∷◌, [], arith, length-append}
use Rattle.sharing_report.proofs.Adding.{new_count, new_turn}
use Rattle.sharing_report.proofs.turn_count.TurnCount.count_new.Goals as goal

pub returns : goal.returns
returns c turns has apart upto few =
    let counted = new_count turns c.args.turn apart in
    let was = has.count in
    let fits = has.fits in
    let added = c.saturating_add-self.ensures in record {
      count = omega arith;
      fits = omega (arith, length-append turns (c.args.turn ∷ []));
      last = new_turn turns c.args.turn upto;
    }
