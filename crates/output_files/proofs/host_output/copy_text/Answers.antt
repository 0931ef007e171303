use Rattle.std.proofs.Common.{rules, ◌≡◌, Some}
use Rattle.output_files.proofs.host_output.copy_text.Goals as goal
use Rattle.output_files.proofs.Copied.{appended, left_at_start, on_ok}

pub returns-clause-whole : goal.returns-clause-whole
returns-clause-whole g c = on_ok c.flush.result (λ reads.
    let was = reads c.args.file.now in
    let there = reads c.rewind.new.self in
    let start : g.F.Seek.stream_position c.rewind.new.self ≡ Some 0 = rw was.1 at c.in_ok-rewind.ensures.moves in
    let left = left_at_start there.0 _ (g.F.Seek.stream_bytes c.rewind.new.self) _ there.1 start there.2 in
    appended (g.F.Seek.stream_bytes c.args.file.now) (g.F.Seek.stream_bytes c.rewind.new.self) (g.F.Read.remaining c.rewind.new.self)
    (g.W.Write.contents c.args.writer.now) (g.W.Write.contents c.copy.new.writer) (g.W.Write.contents c.flush.new.self)
    c.in_ok-rewind.ensures.bytes left c.in_ok-copy.ensures.bytes c.flush.ensures.bytes)
