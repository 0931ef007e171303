use Rattle.std.proofs.Common.{◌≡◌, take}
use Rattle.std.specs.List.{flat_map}
use Rattle.std.specs.String.{string_bytes}
use Rattle.races.specs.FindingTexts.{finding_text}
use Rattle.races.proofs.text.findings_text.Given as goal

abbrev pub invariant-loop-finding : goal.invariant-loop-finding
invariant-loop-finding l = string_bytes l.text ≡ flat_map (finding_text l.symbols) (take l.finding-index l.shown)
