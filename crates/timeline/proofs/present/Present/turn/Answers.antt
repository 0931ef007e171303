use Rattle.std.proofs.Common.{◌≡◌, arith}
use Rattle.token.specs.RunInTurn.{point_of}
use Rattle.timeline.specs.Present.{point_at}
use Rattle.timeline.proofs.Lasting.{last_of_turn, quantum_of_turn}
use Rattle.timeline.proofs.present.Present.turn.Goals as goal

pub returns-in-Ok-clause-sound : goal.returns-in-Ok-clause-sound
returns-in-Ok-clause-sound c =
    let point = point_at c.args.self.now in
    let before = point_of c.deref_mut.result.now in
    let same : before ≡ point = cc in
    record {
      turns = tt;
      few = omega (arith, c.requires.few, c.count_of-count.ensures);
      quantum = quantum_of_turn point before (point_of c.turn.new.self) same c.in-Ok.ensures.longer.setup c.requires.quantum;
      last = last_of_turn point before (point_of c.turn.new.self) c.args.self.now.last _ c.in-Ok.turn c.requires.last c.requires.needed same c.in-Ok.ensures.moved c.in-Ok.ensures.turn;
    }
