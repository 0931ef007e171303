-- What a replay answers, put together of its parts.
use Rattle.std.proofs.Common.{◌≡◌, inr, ℕ, Option, Result, Ok, Err, List, IfErr, IfOk, ◌<◌, ◌≤◌, ◌&&◌, Bool, true, nat_le}
use Rattle.std.proofs.lemmas.Bool.{and_parts, leb-true}
use Rattle.std.specs.Io.KnownBytes.{Appends}
use Rattle.std.specs.Option.{option_map_or}
use Rattle.shuffled_phases.specs.Config.{is_numbered, is_valid}
use Rattle.abi.specs.Limits as limit
use Rattle.shuffled_phases.specs.Span.{is_span}
use Rattle.shuffled_phases.specs.declared.config.Config.{Config}
use Rattle.schedule.specs.declared.event.Event.{Event}
use Rattle.token.specs.Setup.{Setup}
use Rattle.token.specs.declared.outcome.RunOutcome.{RunOutcome}
use Rattle.command_line.specs.Replayed.{IsCut, IsReplayed}
use Rattle.command_line.specs.declared.replay_failure.ReplayFailure.{ReplayFailure}
use Rattle.command_line.specs.Replays.{AreOf, ReplayRequest, Replays}

-- an accepted configuration has 1 to 64 workers
pub few_workers : (config : Config) → is_valid config ≡ true → (config.workers ≤ limit.workers) × (0 < config.workers)
unfolding is_valid
few_workers config is =
    let setup : Bool = is_span config.bound && option_map_or is_span config.quantum true && option_map_or is_numbered config.shuffle true in
    let last = and_parts (setup && nat_le 1 config.workers) (nat_le config.workers limit.workers) is in
    let first = and_parts setup (nat_le 1 config.workers) last.0 in
    (leb-true config.workers limit.workers last.1, leb-true 1 config.workers first.1)

-- what a run that was opened with these events answers is what the replay answers
pub replays : (request : ReplayRequest) (output output' : Option (List ℕ)) (setup : Setup) (events : List Event)
    (answer : Result (Option RunOutcome) ReplayFailure) → AreOf request setup events
    → IfOk answer (λ ended. (text : List ℕ) × IsReplayed setup request.config.workers events ended text × Appends output output' text)
    → IfErr answer (IsCut setup request.config.workers events output output') → Replays request output output' answer
replays request output output' setup events (Ok ended) are replayed cut = (setup, events, replayed.0, are, replayed.1, replayed.2)
replays request output output' setup events (Err failure) are replayed cut = inr (setup, events, are, cut)
