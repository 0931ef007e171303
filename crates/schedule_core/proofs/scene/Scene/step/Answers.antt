use Rattle.std.proofs.Common.{refl, arith}
use Rattle.std.proofs.lemmas.Grind.{common_steps}
use Rattle.schedule.specs.declared.event.Event.TheVariants.{Step}
use Rattle.schedule_core.proofs.Desk.{there_at, held_at, must_work, not_stopped, counts_step, counts_kept, ok_then, err_then}
use Rattle.schedule_core.specs.Jobs.{verdicts_of}
use Rattle.schedule_core.specs.Scene.{start_in}
use Rattle.schedule_core.specs.declared.seat.Seat.TheVariants.{Working}
use Rattle.schedule_core.proofs.scene.Scene.step.Goals as goal

pub go_on-requires-clause-goes : goal.go_on-requires-clause-goes
go_on-requires-clause-goes c =
    not_stopped (verdicts_of (start_in c.args.self.now)) c.args.self.now.drawn c.args.self.now.least c.args.self.now.seats.items c.args.self.now.slots.items c.args.worker c.in-Working.held (there_at c.args.self.now.seats.items c.args.worker c.index_mut.result.now _ c.requires.there c.index_mut.ensures.value c.in-Working.is) c.requires.enabled

pub returns-in-Working : goal.returns-in-Working
returns-in-Working c =
    let is = there_at c.args.self.now.seats.items c.args.worker c.index_mut.result.now (Working c.in-Working.held) c.requires.there c.index_mut.ensures.value c.in-Working.is in
    record {
      sound = grind (arith, common_steps);
      serial = refl;
      keeper = refl;
      ok = ok_then c.go_on.result (counts_step (start_in c.args.self.now) c.args.self.now.drawn c.args.self.now.least c.args.self.now.seats.items c.args.self.now.slots.items c.args.worker c.in-Working.held c.go_on.new.self is (held_at (start_in c.args.self.now) c.args.self.now.drawn c.args.self.now.seats.items c.args.self.now.slots.items c.args.worker c.in-Working.held c.requires.sound.desk is)) c.go_on.ensures.ok;
      err = err_then c.go_on.result (counts_kept c.args.self.now.drawn c.args.self.now.least c.args.self.now.seats.items c.args.self.now.slots.items c.args.worker c.in-Working.held c.go_on.new.self is) c.go_on.ensures.err;
    }

pub returns-in_default : goal.returns-in_default
returns-in_default c = absurd (must_work (verdicts_of (start_in c.args.self.now)) c.args.self.now.drawn c.args.self.now.least c.args.self.now.seats.items c.args.self.now.slots.items c.args.worker c.index_mut.result.now (Step c.args.worker) refl refl c.requires.there c.index_mut.ensures.value c.requires.enabled c.in_default.not-Working)
