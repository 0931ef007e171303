use Rattle.runtime.proofs.Valid.{in_range}
use Rattle.explored_runs.proofs.shuffled.open_shuffled.Goals as goal

pub open-requires : goal.open-requires
open-requires c =
    let range = in_range c.args.config.now c.requires in
    record { bound = range.bound; some = range.some; quantum = range.quantum; some_quantum = range.some_quantum }
