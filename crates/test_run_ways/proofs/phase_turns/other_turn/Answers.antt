use Rattle.std.proofs.Common.{sym, subst}
use Rattle.guest_memory.specs.Memory.{Memory}
use Rattle.segment.specs.Ends.{IsEndOf}
use Rattle.token.specs.RunInTurn.{point_of}
use Rattle.token.proofs.Needs.{keeper_needed}
use Rattle.test_run_ways.proofs.phase_turns.other_turn.Goals as goal

pub turn-requires : goal.turn-requires
turn-requires c =
    keeper_needed (point_of c.args.serial.now) c.in-Keeper.work c.in_ok-end-in-Keeper.end (sym c.in-Keeper.ensures.need)
    (subst (λ (memory : Memory). IsEndOf memory c.in-Keeper.work.segment c.in_ok-end-in-Keeper.end) c.now.ensures c.in_ok-end-in-Keeper.ensures)
