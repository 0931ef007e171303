use Rattle.std.proofs.Common.{Option, option_map, sym, subst, Bor}
use Rattle.commit.specs.ByteMap.{ByteMap}
use Rattle.token.specs.Change.{addresses_by}
use Rattle.token.specs.History.{changes_of, turns_of}
use Rattle.token.specs.Point.{patch_of}
use Rattle.token.specs.RunInTurn.{point_of}
use Rattle.token.specs.Serial.{IsLonger, IsNeeded}
use Rattle.token.specs.declared.run_in_turn.RunInTurn.{RunInTurn}
use Rattle.segment.specs.declared.segment_end.SegmentEnd.{SegmentEnd}
use Rattle.token.proofs.LawfulTurn.{lawful, recorded_after}
use Rattle.token.proofs.Longer.{longer}
use Rattle.token.proofs.NextStep.{may_turn, needed_due}
use Rattle.token.proofs.serial.Serial.turn.Goals as goal

-- the end of the segment, as the contracts see it
abbrev end_of : Option (Bor SegmentEnd) → Option SegmentEnd
end_of end = option_map (λ (end : Bor SegmentEnd). end.now) end

pub turn-requires-clause-due : goal.turn-requires-clause-due
turn-requires-clause-due g c =
    let needed : IsNeeded c.self.inside.run (end_of c.args.end) = subst (λ (run : RunInTurn). IsNeeded run (end_of c.args.end)) (sym c.self.view_is) c.requires in
    needed_due (point_of c.self.inside.run) c.self.invariant.0 (end_of c.args.end) c.self.invariant.1 c.self.invariant.2 needed

pub turn-requires-clause-ready : goal.turn-requires-clause-ready
turn-requires-clause-ready g c =
    let needed : IsNeeded c.self.inside.run (end_of c.args.end) = subst (λ (run : RunInTurn). IsNeeded run (end_of c.args.end)) (sym c.self.view_is) c.requires in
    may_turn (point_of c.self.inside.run) c.self.invariant.0 (end_of c.args.end) c.self.invariant.1 c.self.invariant.2 needed

pub invariant_of-self-2 : goal.invariant_of-self-2
invariant_of-self-2 g c =
    let needed : IsNeeded c.self.inside.run (end_of c.args.end) = subst (λ (run : RunInTurn). IsNeeded run (end_of c.args.end)) (sym c.self.view_is) c.requires in
    let history = c.self.invariant.0 in
    let ready = subst (λ (patch : Option ByteMap). g.R.Recorder.is_ready c.prepare.new.self (addresses_by patch)) c.patch_of.ensures c.in_ok-prepare.ensures.ready in
    let recorded = c.record.ensures (addresses_by (patch_of (end_of c.args.end))) (turns_of history) (changes_of history) ready
    (c.in_ok-prepare.ensures.kept (turns_of history) (changes_of history) c.self.invariant.3) in
    recorded_after g.R.Recorder.records c.record.new.self c.self.inside.run c.turn.new.self (end_of c.args.end) c.in_ok-turn.turn history
    c.self.invariant.1 c.self.invariant.2 needed c.in_ok-turn.ensures.turn c.in_ok-turn.ensures.moved recorded

pub returns-clause-longer : goal.returns-clause-longer
returns-clause-longer g c =
    let needed : IsNeeded c.self.inside.run (end_of c.args.end) = subst (λ (run : RunInTurn). IsNeeded run (end_of c.args.end)) (sym c.self.view_is) c.requires in
    subst (λ (run : RunInTurn). IsLonger (point_of run) (point_of c.turn.new.self)) c.self.view_is
    (longer c.self.inside.run c.turn.new.self (end_of c.args.end) (lawful g.R.Recorder.records c.self.inside.recorder c.self.inside.run c.self.invariant) needed c.in_ok-turn.ensures.moved)
