use Rattle.std.proofs.Common.{◌≡◌, ◌+◌, ◌∙◌, ℕ, Some, None, [], ap, rules, subst, sym}
use Rattle.std.proofs.KnownBytes.{Appends-nil}
use Rattle.std.specs.Arc.{arc_value}
use Rattle.std.specs.Io.KnownBytes.{Appends}
use Rattle.paged_memory.specs.Page.{PageValue}
use Rattle.paged_memory.specs.PageMap.{PageMap}
use Rattle.paged_memory.specs.Snapshot.{pages_of}
use Rattle.core_file.specs.Runs.{page_bytes}
use Rattle.core_file.proofs.Written.{nothing_yet, page_more}
use Rattle.core_file.proofs.writing.write_run.Goals as goal
use Rattle.core_file.proofs.writing.write_run.Goals.{in-Some+in_ok-write_bytes-in-Some, in-None}

pub loop-place-init : goal.loop-place-init
loop-place-init g c =
    subst (Appends (g.W.Write.contents c.args.writer.now) (g.W.Write.contents c.args.writer.now)) (sym (nothing_yet (pages_of c.args.memory.now) c.args.run.now.first)) (Appends-nil _)

pub loop-place-preserved : goal.loop-place-preserved
loop-place-preserved g c =
    let pages : PageMap = pages_of c.args.memory.now in
    let first : ℕ = c.args.run.now.first in
    let place : ℕ = c.loop-place.place in
    elim c.match-page.branch [
      | in-Some+in_ok-write_bytes-in-Some w ↦
          let found = rw w.in-Some.is at c.page.ensures in
          let page : PageValue = w.deref.result.now in
          let same : page ≡ arc_value w.in-Some.page.now = search rules in
          let is : Some page ≡ pages (first + place) = ap Some same ∙ found in
          let bytes : w.bytes.result.now ≡ page_bytes (pages (first + place)) = w.bytes.ensures.bytes ∙ ap page_bytes is in
          rw w.writer-is
          (page_more (g.W.Write.contents c.args.writer.now) (g.W.Write.contents c.loop-place.writer) (g.W.Write.contents w.write_bytes.new.writer) pages first place w.bytes.result.now
          c.loop-place.invariant w.in_ok-write_bytes-in-Some.ensures.written bytes)
      | in-None w ↦
          let found : None ≡ pages (first + place) = rw w.in-None.is at c.page.ensures in
          rw w.writer-is
          (page_more (g.W.Write.contents c.args.writer.now) (g.W.Write.contents c.loop-place.writer) (g.W.Write.contents c.loop-place.writer) pages first place []
          c.loop-place.invariant (Appends-nil _) (ap page_bytes found))
    ]
