use Rattle.std.proofs.Common.{◌∙◌, ap, sym}
use Rattle.schedule.specs.Phase.{is_draw}
use Rattle.schedule_core.proofs.Desk.{there_at, allowed_to, no_draw, enabled_at}
use Rattle.schedule_core.specs.Jobs.{verdicts_of}
use Rattle.schedule_core.specs.Scene.{start_in}
use Rattle.schedule_core.specs.declared.seat.Seat.TheVariants.{Idle, Ended, Working}
use Rattle.schedule_core.proofs.scene.Scene.allows.Goals as goal

pub returns-in-Idle-Draw : goal.returns-in-Idle-Draw
returns-in-Idle-Draw c =
    sym (enabled_at (verdicts_of (start_in c.args.self.now)) c.args.self.now.drawn c.args.self.now.least c.args.self.now.seats.items c.args.self.now.slots.items c.args.worker Idle c.args.event c.requires.its
    (there_at c.args.self.now.seats.items c.args.worker c.index.result.now Idle c.requires.there c.index.ensures c.in-Idle-Draw.is-0) ∙ ap is_draw c.in-Idle-Draw.is-1)

pub returns-in-Working-default : goal.returns-in-Working-default
returns-in-Working-default c =
    c.allows.ensures
    ∙ allowed_to (start_in c.args.self.now) c.args.self.now.drawn c.args.self.now.least c.args.self.now.seats.items c.args.self.now.slots.items c.args.worker c.in-Working-default.held c.args.event c.requires.sound.desk c.requires.its
    (there_at c.args.self.now.seats.items c.args.worker c.index.result.now (Working c.in-Working-default.held) c.requires.there c.index.ensures c.in-Working-default.is-0)

pub returns-in_default : goal.returns-in_default
returns-in_default c =
    sym (enabled_at (verdicts_of (start_in c.args.self.now)) c.args.self.now.drawn c.args.self.now.least c.args.self.now.seats.items c.args.self.now.slots.items c.args.worker Idle c.args.event c.requires.its
    (there_at c.args.self.now.seats.items c.args.worker c.index.result.now Idle c.requires.there c.index.ensures c.in_default.is-0) ∙ no_draw c.args.event c.in_default.not-Draw-1)

pub returns-in_default-2 : goal.returns-in_default-2
returns-in_default-2 c =
    sym (enabled_at (verdicts_of (start_in c.args.self.now)) c.args.self.now.drawn c.args.self.now.least c.args.self.now.seats.items c.args.self.now.slots.items c.args.worker Ended c.args.event c.requires.its
    (there_at c.args.self.now.seats.items c.args.worker c.index.result.now Ended c.requires.there c.index.ensures c.in_default.is-0))
