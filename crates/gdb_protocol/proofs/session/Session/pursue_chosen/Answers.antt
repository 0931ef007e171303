use Rattle.std.proofs.Common.{◌∙◌, Bool, Option, None, sym, ap, subst}
use Rattle.std.specs.Prelude.{if◌then◌else◌}
use Rattle.timeline.specs.Going.{IsSought}
use Rattle.timeline.specs.declared.line.Line.{Line}
use Rattle.gdb_protocol.specs.Pursuing.{slice}
use Rattle.gdb_protocol.specs.declared.pursuit.Pursuit.{Pursuit}
use Rattle.gdb_protocol.proofs.Pursuits.{anyhow}
use Rattle.gdb_protocol.proofs.session.Session.pursue_chosen.Goals as goal

-- what is pursued by whether it is there
abbrev next : Option Pursuit → Bool → Option Pursuit
next pursued is = if is then None else pursued

pub returns-then-is_there-clause-chosen : goal.returns-then-is_there-clause-chosen
returns-then-is_there-clause-chosen c =
    anyhow c.tell_chosen.result (
      c.in_ok-is_there.is_there,
      subst (λ (line : Line). IsSought c.args.self.now.timeline.present c.args.step slice c.in_ok-is_there.is_there line.present) (sym c.tell_chosen.ensures.stands)
          c.in_ok-is_there.ensures.sought,
      c.tell_chosen.ensures.stopped ∙ ap (next c.args.self.now.pursuit) (sym c.if-is_there.true),
    )

pub returns-clause-chosen : goal.returns-clause-chosen
returns-clause-chosen c =
    (c.in_ok-is_there.is_there, c.in_ok-is_there.ensures.sought, ap (next c.args.self.now.pursuit) (sym c.if-is_there.false))
