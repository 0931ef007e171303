use Rattle.token.proofs.Complete.{nothing_follows, one_answer}
use Rattle.token.proofs.GoesOn.{some_follows}
use Rattle.token.proofs.KeeperHolds.{holder_keeps, none_else_holds}
use Rattle.token.proofs.OneBeginning.{one_beginning}
use Rattle.token.proofs.OneHistory.{one_is_prefix}
use Rattle.token.proofs.law.one_history.Goals as goal

pub returns-clause-determinism : goal.returns-clause-determinism
returns-clause-determinism c = record { prefix = one_is_prefix; answer = one_answer }

pub returns-clause-progress : goal.returns-clause-progress
returns-clause-progress c = record { goes_on = some_follows; ends = nothing_follows }

pub returns-clause-mutual_exclusion : goal.returns-clause-mutual_exclusion
returns-clause-mutual_exclusion c = record { holder = holder_keeps; none_else = none_else_holds }

pub returns-clause-one_beginning : goal.returns-clause-one_beginning
returns-clause-one_beginning c = record { begins = one_beginning }
