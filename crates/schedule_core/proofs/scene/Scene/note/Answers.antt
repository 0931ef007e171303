use Rattle.std.proofs.Common.{refl, arith}
use Rattle.std.proofs.lemmas.Grind.{common_steps}
use Rattle.schedule.specs.declared.event.Event.TheVariants.{Note}
use Rattle.schedule_core.proofs.Desk.{there_at, must_work, counts_note}
use Rattle.schedule_core.specs.Jobs.{verdicts_of}
use Rattle.schedule_core.specs.Scene.{start_in}
use Rattle.schedule_core.proofs.scene.Scene.note.Goals as goal

pub returns-in-Working : goal.returns-in-Working
returns-in-Working c = record {
  sound = grind (arith, common_steps);
  serial = refl;
  keeper = refl;
  ok = rw c.min-self.ensures (counts_note (verdicts_of (start_in c.args.self.now)) c.args.self.now.drawn c.args.self.now.least c.args.self.now.seats.items c.args.self.now.slots.items c.args.worker c.in-Working.held (there_at c.args.self.now.seats.items c.args.worker c.index_mut.result.now _ c.requires.there c.index_mut.ensures.value c.in-Working.is));
  err = tt;
}

pub returns-in_default : goal.returns-in_default
returns-in_default c = absurd (must_work (verdicts_of (start_in c.args.self.now)) c.args.self.now.drawn c.args.self.now.least c.args.self.now.seats.items c.args.self.now.slots.items c.args.worker c.index_mut.result.now (Note c.args.worker) refl refl c.requires.there c.index_mut.ensures.value c.requires.enabled c.in_default.not-Working)
