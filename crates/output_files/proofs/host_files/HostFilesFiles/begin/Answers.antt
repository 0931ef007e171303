use Rattle.output_files.proofs.host_files.HostFilesFiles.begin.Goals as goal

-- a file of the host doesn't tell what it holds
pub returns-clause-empty : goal.returns-clause-empty
returns-clause-empty g c = λ tells. let told = tells c.in_ok-output.output in cc
