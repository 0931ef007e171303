use Rattle.command_run.proofs.abandoning.abandon.Goals as goal

pub returns-clause-kept : goal.returns-clause-kept
returns-clause-kept g c = rw c.into_iter-rest.ensures.rest at c.abandon_rest.ensures.kept
