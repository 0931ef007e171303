use Rattle.std.proofs.Common.{refl, arith}
use Rattle.schedule_core.proofs.Desk.{must_be_idle, counts_draw, seat_draws, few_drawn}
use Rattle.schedule_core.specs.Jobs.{verdicts_of}
use Rattle.schedule_core.specs.Scene.{start_in}
use Rattle.schedule_core.proofs.scene.Scene.draw.Goals as goal

pub overflow_add-self : goal.overflow_add-self
overflow_add-self c =
    let few = few_drawn (start_in c.args.self.now) c.args.self.now.drawn c.args.self.now.seats.items c.args.self.now.slots.items c.requires.sound.desk in
    omega arith

pub returns : goal.returns
returns c =
    let is = must_be_idle (verdicts_of (start_in c.args.self.now)) c.args.self.now.drawn c.args.self.now.least c.args.self.now.seats.items c.args.self.now.slots.items c.args.worker c.requires.there c.requires.enabled in
    record {
      sound = record {
        desk = seat_draws (start_in c.args.self.now) c.args.self.now.drawn c.args.self.now.seats.items c.args.self.now.slots.items c.args.worker c.in_ok-seat.seat c.requires.sound.desk is c.in_ok-seat.ensures.seat c.in_ok-seat.ensures.worker;
        keeper = c.requires.sound.keeper;
        outcome = c.requires.sound.outcome;
        room = record { slots = c.requires.sound.room.slots; seats = c.requires.sound.room.seats };
      };
      serial = refl;
      keeper = refl;
      ok = counts_draw (verdicts_of (start_in c.args.self.now)) c.args.self.now.drawn c.args.self.now.least c.args.self.now.seats.items c.args.self.now.slots.items c.args.worker c.in_ok-seat.seat is c.in_ok-seat.ensures.worker;
      err = tt;
    }
