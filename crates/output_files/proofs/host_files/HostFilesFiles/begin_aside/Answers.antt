use Rattle.output_files.specs.declared.host_output.End.TheVariants.{Aside}
use Rattle.output_files.proofs.host_files.HostFilesFiles.begin_aside.Goals as goal

-- a file of the host doesn't tell what it holds
pub returns-clause-empty : goal.returns-clause-empty
returns-clause-empty g c = λ tells. let told = tells (record { file = c.in_ok-nameless_file.field-0; end = Aside }) in cc
