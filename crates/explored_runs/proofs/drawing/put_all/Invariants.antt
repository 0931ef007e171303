use Rattle.std.proofs.Common.{ℕ, List, vec_len}
use Rattle.elf32_reader.specs.LoadImage.{LoadImage}
use Rattle.shuffled_phases.specs.declared.config.Config.{Config}
use Rattle.explored_runs.specs.Runs.{AllSeen, AreSlots}
use Rattle.explored_runs.proofs.drawing.put_all.Given as goal

abbrev pub invariant-loop-run : goal.invariant-loop-run
invariant-loop-run l = (image : LoadImage) (input : List ℕ) (config : Config) → AllSeen image input config l.fn.seen.items
    → AreSlots image input config l.batch l.initial.slots → record { slots : AreSlots image input config l.batch l.slots; seen : AllSeen image input config l.seen.items }

abbrev pub decreases-loop-run : goal.decreases-loop-run
decreases-loop-run l = vec_len l.seen
