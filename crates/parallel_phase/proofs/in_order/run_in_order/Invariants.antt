use Rattle.paged_memory.specs.Snapshot.{cells_of}
use Rattle.parallel_phase.proofs.in_order.run_in_order.Given as goal

-- the ends of a call are of its phase
abbrev pub ghosts-in_order : goal.ghosts-in_order
ghosts-in_order g a = record { jobs = a.jobs.now; memory = cells_of a.base.now }
