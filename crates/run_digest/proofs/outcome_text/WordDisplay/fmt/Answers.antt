use Rattle.std.proofs.Common.{rules, ◌≡◌, ◌<◌, ◌^◌, List, ℕ, ap, Some}
use Rattle.std.specs.Fmt.{styled_digits_output}
use Rattle.text_output.specs.Digits.{hexadecimal}
use Rattle.run_digest.proofs.outcome_text.WordDisplay.fmt.Goals as goal
use Rattle.run_digest.proofs.Padded.{padded}

pub returns-clause-writes : goal.returns-clause-writes
returns-clause-writes g c =
    let small : c.args.self.now.0 < 2 ^ 32 = search rules in
    let text : styled_digits_output c.in_radix.result c.laid_out.result ≡ Some (hexadecimal 8 c.args.self.now.0) =
    rw (c.laid_out.ensures, c.in_radix.ensures) (ap (λ (digits : List ℕ). Some digits) (padded c.args.self.now.0 small)) in
    rw text at c.write.ensures.writes
