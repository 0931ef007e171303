use Rattle.token.specs.RunInTurn.{point_of}
use Rattle.runtime.specs.Run.{setup_from}
use Rattle.runtime.proofs.Stops.{began, began_counting, began_sending, unopened, unopened_sending}
use Rattle.runtime.proofs.recording.run_recorded.Goals as goal

pub returns-in-Ok-clause-answers : goal.returns-in-Ok-clause-answers
returns-in-Ok-clause-answers g c =
    rw c.told.ensures
    (began g.K.Recorder.records g.K.Recorder.writes c.args.elf.now c.args.input.now c.args.config.now (point_of c.in-Ok.start).setup c.run_opened-result.result.result
    c.run_opened-result.result.recorder c.in-Ok.ensures.0 c.in-Ok.ensures.1 c.run_opened-result.ensures.end c.run_opened-result.ensures.writes_if)

pub returns-in-Ok-clause-sent : goal.returns-in-Ok-clause-sent
returns-in-Ok-clause-sent g c =
    rw c.told.ensures
    (began_sending (point_of c.in-Ok.start).setup (setup_from c.args.elf.now c.args.input.now c.args.config.now) c.run_opened-result.result.result _ _
    c.in-Ok.ensures.1 c.run_opened-result.ensures.sent)

pub returns-in-Ok-clause-failures : goal.returns-in-Ok-clause-failures
returns-in-Ok-clause-failures g c = rw c.told.ensures (began_counting c.run_opened-result.result.result _ _ c.run_opened-result.ensures.failures)

pub returns-in-Err-OutOfMemory-clause-answers : goal.returns-in-Err-OutOfMemory-clause-answers
returns-in-Err-OutOfMemory-clause-answers g c =
    unopened g.K.Recorder.records g.K.Recorder.writes c.args.elf.now c.args.input.now c.args.config.now c.args.recorder (rw c.in-Err-OutOfMemory.field-0-is at c.in-Err-OutOfMemory.ensures) c.requires.none

pub returns-in-Err-OutOfMemory-clause-sent : goal.returns-in-Err-OutOfMemory-clause-sent
returns-in-Err-OutOfMemory-clause-sent g c =
    unopened_sending (setup_from c.args.elf.now c.args.input.now c.args.config.now) (g.S.Sink.taken c.args.sink.now)
