use Rattle.std.proofs.Common.{refl, sym, subst}
use Rattle.guest_memory.specs.Memory.{Memory}
use Rattle.segment.specs.Ends.{IsEndOf}
use Rattle.token.specs.RunInTurn.{point_of}
use Rattle.token.proofs.Needs.{segment_needed, keeper_needed}
use Rattle.runtime.proofs.Needs.{end_at, on_err}
use Rattle.runtime.proofs.turns.take_turn.Goals as goal

pub turn-requires : goal.turn-requires
turn-requires g c =
    segment_needed (point_of c.args.serial.now) c.in-Segment.work c.in_ok-end-in-Segment.end (sym c.in-Segment.ensures.need) c.in_ok-end-in-Segment.ensures.end

pub turn-requires-in-Keeper : goal.turn-requires-in-Keeper
turn-requires-in-Keeper g c =
    keeper_needed (point_of c.args.serial.now) c.in-Keeper.work c.in_ok-end-in-Keeper.end (sym c.in-Keeper.ensures.need)
    (subst (λ (memory : Memory). IsEndOf memory c.in-Keeper.work.segment c.in_ok-end-in-Keeper.end) c.now.ensures c.in_ok-end-in-Keeper.ensures)

pub returns-in-Ended-clause-moved : goal.returns-in-Ended-clause-moved
returns-in-Ended-clause-moved g c = (end_at (point_of c.args.serial.now) _ c.in-Ended.ensures.need, refl)

-- ---- a turn that failed was one of a run that goes on

pub returns-in_err-end-in-Segment-clause-unended : goal.returns-in_err-end-in-Segment-clause-unended
returns-in_err-end-in-Segment-clause-unended g c = on_err _ _ (end_at (point_of c.args.serial.now) _ c.in-Segment.ensures.need)

pub returns-in_err-turn-in-Segment-clause-unended : goal.returns-in_err-turn-in-Segment-clause-unended
returns-in_err-turn-in-Segment-clause-unended g c = on_err _ _ (end_at (point_of c.args.serial.now) _ c.in-Segment.ensures.need)

pub returns-in_err-end-in-Keeper-clause-unended : goal.returns-in_err-end-in-Keeper-clause-unended
returns-in_err-end-in-Keeper-clause-unended g c = on_err _ _ (end_at (point_of c.args.serial.now) _ c.in-Keeper.ensures.need)

pub returns-in_err-turn-in-Keeper-clause-unended : goal.returns-in_err-turn-in-Keeper-clause-unended
returns-in_err-turn-in-Keeper-clause-unended g c = on_err _ _ (end_at (point_of c.args.serial.now) _ c.in-Keeper.ensures.need)

pub returns-in_err-turn-in-Wake-clause-unended : goal.returns-in_err-turn-in-Wake-clause-unended
returns-in_err-turn-in-Wake-clause-unended g c = on_err _ _ (end_at (point_of c.args.serial.now) _ c.in-Wake.ensures.need)
