use Rattle.std.proofs.Common.{◌≡◌, ◌+◌, ◌*◌, ◌++◌, ◌∙◌, ℕ, false, List, [], ◌∷◌, ap, arith, sym, take}
use Rattle.std.specs.Prelude.{slice_index_or}
use Rattle.std.proofs.lemmas.List.{append-nil, take_more}
use Rattle.core_file.specs.Core.{load_headers}
use Rattle.core_file.specs.Fields.{program_header_bytes}
use Rattle.core_file.specs.declared.run.Run.{Run}
use Rattle.core_file.proofs.Headers.{header_added, offset_added}
use Rattle.core_file.proofs.heads.put_load_headers.Goals as goal

pub loop-run-init : goal.loop-run-init
unfolding load_headers
loop-run-init c = record { offset = omega arith; headers = λ pages. sym (append-nil c.args.head.now.items) }

pub loop-run-preserved : goal.loop-run-preserved
loop-run-preserved c =
    let runs : List Run = c.args.runs.now in
    let place : ℕ = c.loop-run.run-index in
    let run : Run = slice_index_or runs place (record { first = 0; count = 0; perm = record { read = false; write = false; execute = false } }) in
    let taken : take (place + 1) runs ≡ take place runs ++ run ∷ [] = take_more runs place _ (omega arith) in
    let had = c.loop-run.invariant in
    let made =
    c.in_ok-put_program_header.ensures
    ∙ ap
    (λ (flags : ℕ). c.loop-run.head.items
    ++ program_header_bytes (record { p_type = 1; p_offset = c.loop-run.offset; p_vaddr = 4096 * run.first; p_filesz = 4096 * run.count; p_memsz = 4096 * run.count; p_flags = flags; p_align = 1 }))
    c.flags_of.ensures in
    record {
      offset = offset_added c.args.start c.loop-run.offset (take place runs) (take (place + 1) runs) run taken had.offset;
      headers = λ pages.
          header_added c.args.start c.loop-run.offset (take place runs) (take (place + 1) runs) run taken had.offset pages
          c.args.head.now.items c.loop-run.head.items c.put_program_header.new.head.items (had.headers pages) made;
    }
