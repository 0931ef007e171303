use Rattle.std.proofs.Common.{◌≡◌, ◌-◌, [], map}
use Rattle.std.specs.List.{range_with_len}
use Rattle.claim_table.specs.Logs.{new_log}
use Rattle.claim_table.proofs.draws.Draws.new.Given as goal

abbrev pub invariant-loop-number : goal.invariant-loop-number
invariant-loop-number l = record {
  rest : (l.rest.table_id ≡ l.table.shared.table_id) × (l.rest.me.0.size ≡ l.size) × (l.rest.me.0.log ≡ new_log (l.seats - l.number)) × (l.rest.me.1 ≡ []);
  made : l.made.items ≡ map (λ number. record { row = record { table = l.table.shared.table_id; size = l.size }; number = number; log = new_log 1 }) (range_with_len 0 l.number);
}
