use Rattle.command_run.proofs.finishing.finish.Goals as goal

pub returns-clause-out : goal.returns-clause-out
returns-clause-out g c = rw c.into_iter-rest.ensures.rest at c.finish_rest-finished.ensures.out

pub returns-clause-unnamed : goal.returns-clause-unnamed
returns-clause-unnamed g c = rw c.into_iter-rest.ensures.rest at c.finish_rest-finished.ensures.unnamed
