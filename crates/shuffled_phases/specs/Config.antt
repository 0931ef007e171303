use Rattle.std.specs.Prelude.{Bool, true, ◌&&◌, nat_le}
use Rattle.std.specs.Option.{option_map_or}
use Rattle.abi.specs.Limits as limit
use Rattle.shuffled_phases.specs.Span.{is_span}
use Rattle.shuffled_phases.specs.declared.config.Config.{Config}
use Rattle.shuffled_phases.specs.declared.shuffle.Shuffle.{Shuffle}

-- the numbers of schedules begin with 1
abbrev pub is_numbered : Shuffle → Bool
is_numbered shuffle = nat_le 1 shuffle.number

-- whether each number of a configuration is in its range
unfoldable pub is_valid : Config → Bool
is_valid config =
    is_span config.bound && option_map_or is_span config.quantum true && option_map_or is_numbered config.shuffle true
    && nat_le 1 config.workers && nat_le config.workers limit.workers
