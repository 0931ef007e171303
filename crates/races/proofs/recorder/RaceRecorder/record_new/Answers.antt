use Rattle.std.proofs.Common.{rules}
use Rattle.std.proofs.lemmas.Result.{on_ok_weaker}
use Rattle.races.proofs.Telling.{told_access}
use Rattle.races.proofs.recorder.RaceRecorder.record_new.Goals as goal

pub returns : goal.returns
returns c = record {
  recorded =
      on_ok_weaker c.access-recorded.result
      (λ steps. told_access c.args.self.now (record c.access-recorded.new.self { is_broken = c.is_err-self.result }) c.args.access.now c.access-recorded.ensures.said steps)
      c.access-recorded.ensures.steps;
  broken = search rules;
  stays = search rules;
}
