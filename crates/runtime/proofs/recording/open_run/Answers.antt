use Rattle.runtime.proofs.Valid.{in_range}
use Rattle.runtime.proofs.recording.open_run.Goals as goal

pub open-requires : goal.open-requires
open-requires c =
    let range = in_range c.args.config.now c.in_ok-image.ensures.0.0.0 in
    record { bound = range.bound; some = range.some; quantum = range.quantum; some_quantum = range.some_quantum }
