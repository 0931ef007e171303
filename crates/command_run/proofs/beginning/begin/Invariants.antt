use Rattle.std.proofs.Common.{◌≡◌, ◌≤◌, [], length, take, vec_len, vec_capacity}
use Rattle.command_requests.specs.Destination.{KeepsBut}
use Rattle.command_run.specs.Recording.{AreTold, wanted_by}
use Rattle.command_run.specs.Texts.{destinations}
use Rattle.command_run.proofs.beginning.begin.Given as goal

-- those so far were begun
abbrev pub invariant-loop-one : goal.invariant-loop-one
invariant-loop-one g l = record {
  wanted : wanted_by l.items.items ≡ take l.one-index l.wanted;
  told : AreTold g.F.Output.Write.contents l.items.items [] [];
  kept : KeepsBut [] (destinations l.wanted) (g.F.Files.content l.fn.files) (g.F.Files.content l.files);
  untouched : l.wanted ≡ [] → l.files ≡ l.fn.files;
  count : vec_len l.items ≡ l.one-index;
  room : length l.wanted ≤ vec_capacity l.items;
}
