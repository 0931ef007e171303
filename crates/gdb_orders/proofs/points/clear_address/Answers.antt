use Rattle.std.proofs.Common.{ℕ, rules}
use Rattle.std.specs.Prelude.{◌==◌, not}
use Rattle.std.proofs.lemmas.Fn.{filter_same}
use Rattle.gdb_orders.proofs.points.clear_address.Goals as goal

pub returns : goal.returns
returns c = filter_same _ (λ (other : ℕ). not (other == c.args.address)) _ (λ x b f called. search rules) _ _ c.retain.ensures.filtered
