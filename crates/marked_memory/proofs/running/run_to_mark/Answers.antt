use Rattle.paged_memory.specs.Snapshot as snapshots
use Rattle.twins.specs.View.{base_of, cells_of}
use Rattle.marked_memory.specs.Marks.{fenced, marked, places_of}
use Rattle.marked_memory.proofs.Fencing.{without_fence}
use Rattle.marked_memory.proofs.Reaching.{begun, runs_unmarked, same_below}
use Rattle.marked_memory.proofs.running.run_to_mark.Goals as goal

pub run_coded_slice-requires-clause-code : goal.run_coded_slice-requires-clause-code
run_coded_slice-requires-clause-code c = c.around-part.ensures (cells_of c.args.view) c.requires

pub returns-clause-runs : goal.returns-clause-runs
returns-clause-runs c =
    let places = fenced c.around-part.result.fence (places_of c.args.marks) in
    let last = c.run_coded_slice.new.memory in
    let hart = c.args.hart.now in
    let ends = c.in_ok-end.ensures.ends hart (marked places (cells_of c.args.view)) (begun hart (marked places (cells_of c.args.view)) c.args.most) in
    rw c.steps_of.ensures
    (without_fence c.around-part.result.fence c.args.marks.breakpoints.now c.args.marks.watches.now hart c.run_coded_slice.new.hart (cells_of c.args.view) (cells_of last.memory) _
    (runs_unmarked places (fenced last.fence (places_of last.marks)) hart c.args.most c.in_ok-end.end c.run_coded_slice.new.hart c.args.view last.memory
    c.args.view.twins last.memory.twins c.in_ok-end.ensures.base ends))

pub returns-clause-base : goal.returns-clause-base
returns-clause-base c =
    let last = c.run_coded_slice.new.memory in
    same_below (fenced last.fence (places_of last.marks)) (fenced c.around-part.result.fence (places_of c.args.marks))
    (snapshots.cells_of (base_of last.memory)) (snapshots.cells_of (base_of c.args.view)) c.in_ok-end.ensures.base
