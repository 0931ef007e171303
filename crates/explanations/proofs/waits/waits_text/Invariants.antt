use Rattle.std.proofs.Common.{◌≡◌}
use Rattle.std.specs.String.{string_bytes}
use Rattle.explanations.specs.Waits.{lines_before}
use Rattle.explanations.proofs.waits.waits_text.Given as goal

abbrev pub invariant-loop-number : goal.invariant-loop-number
invariant-loop-number l = string_bytes l.text ≡ lines_before l.symbols l.threads l.number
