use Rattle.std.proofs.Common.{◌≡◌, ◌≤◌, ◌-◌, length, take}
use Rattle.std.specs.Io.KnownBytes.{Appends}
use Rattle.runtime.proofs.sending.send.Given as goal

abbrev pub invariant-loop-sent : goal.invariant-loop-sent
invariant-loop-sent g l = record {
  within : l.sent ≤ length l.bytes;
  taken : Appends (g.S.Sink.taken l.fn.sink) (g.S.Sink.taken l.sink) (take l.sent l.bytes);
  steady : g.S.Sink.failed l.sink ≡ g.S.Sink.failed l.fn.sink;
}

abbrev pub decreases-loop-sent : goal.decreases-loop-sent
decreases-loop-sent g l = length l.bytes - l.sent
