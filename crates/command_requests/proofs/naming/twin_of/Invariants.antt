use Rattle.std.proofs.Common.{◌<◌, ℕ}
use Rattle.std.specs.Prelude.{slice_index_or}
use Rattle.output_files.specs.declared.file_name.FileName.{FileName}
use Rattle.command_requests.specs.Names.{AreApart}
use Rattle.command_requests.proofs.naming.twin_of.Given as goal

abbrev pub invariant-loop-other : goal.invariant-loop-other
invariant-loop-other g l = (place : ℕ) (default : FileName) → place < l.other-index → AreApart (g.F.Files.is_same l.files) l.name (slice_index_or l.others place default)
