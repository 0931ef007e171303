use Rattle.std.proofs.Common.{◌≡◌, ◌+◌, ◌++◌, ℕ, false, List, [], ◌∷◌, arith, take}
use Rattle.std.specs.Prelude.{slice_index_or}
use Rattle.std.proofs.lemmas.List.{take_more}
use Rattle.paged_memory.specs.Snapshot.{pages_of}
use Rattle.core_file.specs.declared.run.Run.{Run}
use Rattle.core_file.proofs.Written.{run_more}
use Rattle.core_file.proofs.writing.write_runs.Goals as goal

pub loop-run-preserved : goal.loop-run-preserved
loop-run-preserved g c =
    let runs : List Run = c.args.runs.now in
    let place : ℕ = c.loop-run.run-index in
    let run : Run = slice_index_or runs place (record { first = 0; count = 0; perm = record { read = false; write = false; execute = false } }) in
    let taken : take (place + 1) runs ≡ take place runs ++ run ∷ [] = take_more runs place _ (omega arith) in
    run_more (g.W.Write.contents c.args.writer.now) (g.W.Write.contents c.loop-run.writer) (g.W.Write.contents c.write_run.new.writer) (pages_of c.args.memory.now) (take place runs) (take (place + 1) runs) run taken
    c.loop-run.invariant c.in_ok-write_run.ensures.written
