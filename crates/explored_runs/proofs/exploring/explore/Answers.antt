use Rattle.std.proofs.Common.{◌+◌, ℕ, List, arith, subst, sym}
use Rattle.elf32_reader.specs.LoadImage.{LoadImage}
use Rattle.elf32_reader.specs.Segments.{image_of}
use Rattle.explored_runs.specs.Rows.{AreRowsOf}
use Rattle.explored_runs.specs.Runs.{IsRun}
use Rattle.explored_runs.specs.declared.row.Row.{Row}
use Rattle.explored_runs.proofs.Tables.{no_rows}
use Rattle.explored_runs.proofs.exploring.explore.Goals as goal

pub loop-done-init : goal.loop-done-init
loop-done-init g c = record {
  within = omega arith;
  rows = subst (λ (rows : List Row). AreRowsOf (IsRun (image_of c.args.elf.now) c.args.input.now c.args.config.now) c.args.from 0 rows) (sym c.new-rows.ensures.items)
      (no_rows (IsRun (image_of c.args.elf.now) c.args.input.now c.args.config.now) c.args.from);
}

pub count_all-requires-clause-rows : goal.count_all-requires-clause-rows
count_all-requires-clause-rows g c = λ κs lives.
    subst (λ (image : LoadImage). AreRowsOf (IsRun image c.args.input.now c.args.config.now) c.args.from c.loop-done.done c.loop-done.rows.items)
    (sym c.in_ok-image.ensures.1) c.loop-done.invariant.rows

pub loop-done-preserved : goal.loop-done-preserved
loop-done-preserved g c = record {
  within = omega arith;
  rows = subst
      (λ (image : LoadImage). AreRowsOf (IsRun image c.args.input.now c.args.config.now) c.args.from (c.loop-done.done + c.min.result) c.count_all.new.rows.items)
      c.in_ok-image.ensures.1 c.in_ok-count_all.ensures;
}

pub returns : goal.returns
returns g c = (
  c.in_ok-image.ensures.0,
  subst (λ (n : ℕ). AreRowsOf (IsRun (image_of c.args.elf.now) c.args.input.now c.args.config.now) c.args.from n c.loop-done.rows.items) (omega arith) c.loop-done.invariant.rows,
)
