use Rattle.std.proofs.Common.{rules}
use Rattle.std.specs.Prelude.{not}
use Rattle.std.proofs.lemmas.Fn.{filter_same}
use Rattle.marked_memory.specs.declared.watch.Watch.{Watch}
use Rattle.gdb_orders.specs.Points.{is_same}
use Rattle.gdb_orders.proofs.points.drop_watch.Goals as goal

pub returns : goal.returns
returns c = filter_same _ (λ (other : Watch). not (is_same other c.args.watch)) _ (λ x b f called. search rules) _ _ c.retain.ensures.filtered
