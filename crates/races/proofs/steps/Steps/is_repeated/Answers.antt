use Rattle.std.proofs.Common.{◌+◌, refl}
use Rattle.races.proofs.Repeated.{steps_again}
use Rattle.races.proofs.steps.Steps.is_repeated.Goals as goal

pub returns-clause-again : goal.returns-clause-again
returns-clause-again c = λ same steps knows. steps_again c.args.self.now (c.args.self.now.count + 1) c.args.access.now steps refl (c.has_exactly.ensures c.if-not-has_exactly.false) knows
