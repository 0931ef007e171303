-- The numbers of a configuration in order.
use Rattle.std.proofs.Common.{◌≡◌, ◌<◌, ◌≤◌, ◌&&◌, ℕ, Bool, true, Option, Some, None, nat_le}
use Rattle.std.specs.Option.{option_map_or, IfSome}
use Rattle.std.proofs.lemmas.Bool.{and_parts, leb-true}
use Rattle.shuffled_phases.specs.Config.{is_numbered, is_valid}
use Rattle.shuffled_phases.specs.Span.{is_span}
use Rattle.shuffled_phases.specs.declared.config.Config.{Config}
use Rattle.abi.specs.Limits as limit

record InSpan (n : ℕ) : Type 0 where
  some : 0 < n
  within : n ≤ limit.instructions

in_span : (n : ℕ) → is_span n ≡ true → InSpan n
in_span n is =
    let parts = and_parts (nat_le 1 n) (nat_le n limit.instructions) is in
    record { some = leb-true 1 n parts.0; within = leb-true n limit.instructions parts.1 }

pub record InRange (config : Config) : Type 0 where
  pub bound : config.bound ≤ limit.instructions
  pub some : 0 < config.bound
  pub quantum : IfSome config.quantum (λ quantum. quantum ≤ limit.instructions)
  pub some_quantum : IfSome config.quantum (λ quantum. 0 < quantum)

quantum_within : (quantum : Option ℕ) → option_map_or is_span quantum true ≡ true → IfSome quantum (λ quantum. quantum ≤ limit.instructions)
quantum_within None is = tt
quantum_within (Some quantum) is = (in_span quantum is).within

quantum_some : (quantum : Option ℕ) → option_map_or is_span quantum true ≡ true → IfSome quantum (λ quantum. 0 < quantum)
quantum_some None is = tt
quantum_some (Some quantum) is = (in_span quantum is).some

pub in_range : (config : Config) → is_valid config ≡ true → InRange config
unfolding is_valid
in_range config is =
    let span : Bool = is_span config.bound && option_map_or is_span config.quantum true in
    let workers = and_parts (span && option_map_or is_numbered config.shuffle true && nat_le 1 config.workers) (nat_le config.workers limit.workers) is in
    let worker = and_parts (span && option_map_or is_numbered config.shuffle true) (nat_le 1 config.workers) workers.0 in
    let number = and_parts span (option_map_or is_numbered config.shuffle true) worker.0 in
    let spans = and_parts (is_span config.bound) (option_map_or is_span config.quantum true) number.0 in
    let bound = in_span config.bound spans.0 in
    record {
      bound = bound.within;
      some = bound.some;
      quantum = quantum_within config.quantum spans.1;
      some_quantum = quantum_some config.quantum spans.1;
    }
