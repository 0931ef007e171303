use Rattle.std.proofs.Common.{refl}
use Rattle.schedule.specs.declared.event.Event.TheVariants.{Post}
use Rattle.schedule_core.proofs.Desk.{there_at, held_at, must_work, must_have_stopped, counts_post, seat_changes, slot_changes, posted_end}
use Rattle.schedule_core.specs.Jobs.{verdicts_of}
use Rattle.schedule_core.specs.Scene.{start_in}
use Rattle.schedule_core.specs.declared.seat.Seat.TheVariants.{Idle, Working}
use Rattle.schedule_core.specs.declared.slot.Slot.TheVariants.{Posted}
use Rattle.schedule_core.proofs.scene.Scene.post.Goals as goal

pub returns-in_default : goal.returns-in_default
returns-in_default c = absurd (must_work (verdicts_of (start_in c.args.self.now)) c.args.self.now.drawn c.args.self.now.least c.args.self.now.seats.items c.args.self.now.slots.items c.args.worker c.index.result.now (Post c.args.worker) refl refl c.requires.there c.index.ensures c.requires.enabled c.in_default.not-Working)

pub returns-in_default-stop : goal.returns-in_default-stop
returns-in_default-stop c =
    absurd (must_have_stopped (verdicts_of (start_in c.args.self.now)) c.args.self.now.drawn c.args.self.now.least c.args.self.now.seats.items c.args.self.now.slots.items c.args.worker c.in-Working.held
    (there_at c.args.self.now.seats.items c.args.worker c.index.result.now _ c.requires.there c.index.ensures c.in-Working.is) c.requires.enabled c.in_default-stop.is)

pub returns : goal.returns
returns c =
    let is = there_at c.args.self.now.seats.items c.args.worker c.index.result.now (Working c.in-Working.held) c.requires.there c.index.ensures c.in-Working.is in
    let desk = c.requires.sound.desk in
    let held = held_at (start_in c.args.self.now) c.args.self.now.drawn c.args.self.now.seats.items c.args.self.now.slots.items c.args.worker c.in-Working.held desk is in
    record {
      sound = record {
        desk =
            slot_changes (start_in c.args.self.now) c.args.self.now.drawn _ c.args.self.now.slots.items c.in-Working.held.job (Posted c.in_ok-end.end)
            (seat_changes (start_in c.args.self.now) c.args.self.now.drawn c.args.self.now.seats.items c.args.self.now.slots.items c.args.worker (Working c.in-Working.held) Idle desk is tt refl)
            (rw desk.jobs held.job) (posted_end (start_in c.args.self.now) c.in-Working.held held c.in_ok-end.end c.in_ok-end.ensures);
        keeper = c.requires.sound.keeper;
        outcome = c.requires.sound.outcome;
        room = record { slots = c.requires.sound.room.slots; seats = c.requires.sound.room.seats };
      };
      serial = refl;
      keeper = refl;
      ok = counts_post (verdicts_of (start_in c.args.self.now)) c.args.self.now.drawn c.args.self.now.least c.args.self.now.seats.items c.args.self.now.slots.items c.args.worker c.in-Working.held c.in_ok-end.end is;
      err = tt;
    }
