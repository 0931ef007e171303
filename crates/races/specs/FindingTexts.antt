-- The text of findings.
use Rattle.std.specs.Prelude.{ℕ, ◌-◌, List, ◌++◌, length}
use Rattle.std.specs.List.{flat_map}
use Rattle.std.proofs.Common.{take}
use Rattle.symbols.specs.Symbol.{SymbolLists}
use Rattle.races.specs.FreedTexts.{freed_text}
use Rattle.races.specs.LockTexts.{misuse_text, order_text}
use Rattle.races.specs.Texts.{left_text, race_text}
use Rattle.races.specs.declared.finding.Finding.{Finding}
use Rattle.races.specs.declared.finding.Finding.TheVariants as found

-- the line of a finding
abbrev pub finding_text : SymbolLists → Finding → List ℕ
finding_text symbols (found.Race race) = race_text symbols race
finding_text symbols (found.Freed freed) = freed_text symbols freed
finding_text symbols (found.Order fault) = order_text symbols fault
finding_text symbols (found.Misuse misuse) = misuse_text symbols misuse

-- the text of findings: a line for each of the first 10,000
unfoldable pub text_of : SymbolLists → List Finding → List ℕ
text_of symbols findings = flat_map (finding_text symbols) (take 10000 findings) ++ left_text (length findings - 10000)
