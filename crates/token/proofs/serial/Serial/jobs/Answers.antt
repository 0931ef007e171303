use Rattle.std.proofs.Common.{◌<◌, ℕ, length, sym, subst}
use Rattle.std.proofs.lemmas.List.Elements.{All-filter}
use Rattle.std.specs.Prelude.{All}
use Rattle.token.specs.RunInTurn.{point_of}
use Rattle.token.specs.declared.run_in_turn.RunInTurn.{RunInTurn}
use Rattle.token.proofs.Duties.{all_listed}
use Rattle.token.proofs.serial.Serial.jobs.Goals as goal

pub jobs-requires : goal.jobs-requires
unfolding point_of
jobs-requires g c = all_listed (point_of c.self.inside.run) c.self.invariant.0 c.self.invariant.1

pub returns-clause-made : goal.returns-clause-made
unfolding point_of
returns-clause-made g c =
    let listed = all_listed (point_of c.self.inside.run) c.self.invariant.0 c.self.invariant.1 in
    let made : All (λ n. n < length (point_of c.self.inside.run).base_threads) c.jobs.result.items =
    subst (All (λ (n : ℕ). n < length (point_of c.self.inside.run).base_threads)) (sym c.jobs.ensures) (All-filter _ (λ (n : ℕ). n < length (point_of c.self.inside.run).base_threads) _ listed) in
    subst (λ (run : RunInTurn). All (λ n. n < length (point_of run).base_threads) c.jobs.result.items) c.self.view_is made
