use Rattle.std.proofs.Common.{◌≡◌, ◌≢◌, ◌<◌, ◌∙◌, [], false, sym, arith}
use Rattle.timeline.specs.Halts.{wanted_by}
use Rattle.timeline.specs.Underway.{is_at_call}
use Rattle.timeline.proofs.Quieting.{looked_by}
use Rattle.timeline.proofs.present_segment.PresentSegment.go_looking.Goals as goal
use Rattle.timeline.proofs.present_segment.PresentSegment.go_looking.Goals.{else-from-self-via-then-from-self+else-has_watched_call, else-from-self-via-else-from-self}

pub returns-in_default-2-clause-looked : goal.returns-in_default-2-clause-looked
returns-in_default-2-clause-looked c =
    let first = c.args.self.now in
    let old = c.loop-self.self in
    let wanted = wanted_by c.args.stops.now in
    let no_call : first.done < old.done → wanted.watches ≢ [] → is_at_call old ≡ false =
    elim c.else-from-self.branch [
      | else-from-self-via-then-from-self+else-has_watched_call w ↦ λ below watched. w.has_watched_call.ensures w.if-has_watched_call.false watched
      | else-from-self-via-else-from-self w ↦ λ below watched. absurd (omega (arith, below, w.if-from-self.false))
    ] in
    looked_by wanted first old c.go_on.new.self c.in_ok-other.other c.loop-self.invariant.underway c.loop-self.invariant.same c.loop-self.invariant.quiet
    (sym c.halt_here.ensures ∙ c.in_default.is) no_call c.in_ok-other.ensures c.in_default-2.not-Stays
