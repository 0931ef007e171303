use Rattle.std.proofs.Common.{length}
use Rattle.command_requests.proofs.requested_text.+wants_findings.Given as goal

abbrev pub decreases-wants_findings : goal.decreases-wants_findings
decreases-wants_findings l = length l.wanted.now
