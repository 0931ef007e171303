use Rattle.std.proofs.Common.{◌≡◌, ◌+◌, ◌*◌, ◌++◌, take}
use Rattle.paged_memory.specs.PageMap.{PageMap}
use Rattle.core_file.specs.Core.{load_headers}
use Rattle.core_file.specs.Runs.{loads_of, pages_in}
use Rattle.core_file.proofs.heads.put_load_headers.Given as goal

abbrev pub invariant-loop-run : goal.invariant-loop-run
invariant-loop-run l = record {
  offset : l.offset ≡ l.start + 4096 * pages_in (take l.run-index l.runs);
  headers : (pages : PageMap) → l.head.items ≡ l.initial.head.items ++ load_headers l.start (loads_of pages (take l.run-index l.runs));
}
