use Rattle.command_run.specs.Recording.{wanted_by}
use Rattle.command_run.proofs.running.run_start.Given as goal

-- the texts that are told are those that were begun
abbrev pub ghosts-run_wanted : goal.ghosts-run_wanted
ghosts-run_wanted g a = record { wanted = wanted_by a.items.items }
