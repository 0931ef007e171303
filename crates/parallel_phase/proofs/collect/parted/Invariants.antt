use Rattle.std.proofs.Common.{◌≡◌, ◌++◌, map, flat_map, All}
use Rattle.parallel_phase.specs.Work.{WorkState}
use Rattle.parallel_phase.specs.Outcomes.{IsWhole}
use Rattle.parallel_phase.proofs.collect.parted.Given as goal

abbrev pub invariant-loop-work : goal.invariant-loop-work
invariant-loop-work l = record {
  whole : All IsWhole l.work-iterator.rest.items → All IsWhole l.fn.works.items;
  seats : l.seats.items ++ map (λ (work : WorkState). work.seat) l.work-iterator.rest.items ≡ map (λ (work : WorkState). work.seat) l.fn.works.items;
  drawn : l.drawn.items ++ flat_map (λ (work : WorkState). work.outcomes) l.work-iterator.rest.items ≡ flat_map (λ (work : WorkState). work.outcomes) l.fn.works.items;
}
