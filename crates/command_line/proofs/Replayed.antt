-- What a replay of a run that was opened answers, put together of its parts.
use Rattle.std.proofs.Common.{◌≡◌, ◌∙◌, inl, inr, ℕ, Option, Result, Ok, Err, List, [], IfErr, ap, length}
use Rattle.std.specs.Io.KnownBytes.{Appends}
use Rattle.std.specs.Result.{IsErrAnd}
use Rattle.schedule.specs.Phase.{begun, opened}
use Rattle.schedule.specs.declared.event.Event.{Event}
use Rattle.schedule_core.proofs.Events.{happen_setup}
use Rattle.schedule_core.specs.Histories.{IsOutcome}
use Rattle.schedule_core.specs.Jobs.{jobs_of, start_of}
use Rattle.schedule_core.specs.Tally.{HappenInTurn, IsRefusedAt, Tally}
use Rattle.schedule_core.specs.declared.event_fault.EventFault.{EventFault}
use Rattle.token.specs.Point.{Point}
use Rattle.token.specs.Serial.{StandsAfter}
use Rattle.token.specs.Setup.{Setup}
use Rattle.token.specs.declared.outcome.RunOutcome.{RunOutcome}
use Rattle.command_requests.specs.declared.failure.Failure.{Failure}
use Rattle.command_line.specs.Replayed.{IsBeginning, IsCut, IsPrinted, IsReplayed, IsTraceAt, IsUnprinted}
use Rattle.command_line.specs.Status.{failure_at}
use Rattle.command_line.specs.declared.replay_failure.ReplayFailure.{ReplayFailure}
use Rattle.command_line.specs.declared.replay_failure.ReplayFailure.TheVariants.{Plain}

-- the tally of a run of which nothing has happened
abbrev pub IsOpened : Point → Tally → ℕ → Type 0
IsOpened point tally workers = tally ≡ record { turns = 0; counts = opened (length (jobs_of (start_of point))) workers; keeper = begun }

begins : (start before : Point) (old : Tally) (workers : ℕ) → before ≡ start → StandsAfter before [] → before.done ≡ 0 → IsOpened before old workers → IsBeginning start.setup workers before old
begins start before old workers same stands done opened = record { setup_is = ap (λ (point : Point). point.setup) same; stands = stands; done = done; tally_is = opened }

-- the trace is one of what the run was given
traced : (setup : Setup) (point : Point) (text : List ℕ) → point.setup ≡ setup → IsTraceAt point.setup point text → IsTraceAt setup point text
traced setup point text same trace = record { setup_is = same; history = trace.history; is = trace.is; text_is = trace.text_is }

-- all events happened, and the trace was printed
pub all_replayed : (start before after : Point) (old new : Tally) (workers : ℕ) (events : List Event) (ended : Option RunOutcome) (output output' : Option (List ℕ))
    → before ≡ start → StandsAfter before [] → before.done ≡ 0 → IsOpened before old workers → HappenInTurn before old events after new → IsOutcome after ended → IsPrinted after output output'
    → (text : List ℕ) × IsReplayed start.setup workers events ended text × Appends output output' text
all_replayed start before after old new workers events ended output output' same stands done opened happened outcome printed =
    let kept : after.setup ≡ start.setup = happen_setup before old events after new happened ∙ ap (λ (point : Point). point.setup) same in (
      printed.0,
      record {
        before = before;
        old = old;
        after = after;
        new = new;
        begins = begins start before old workers same stands done opened;
        comes = (happened, outcome);
        trace = traced start.setup after printed.0 kept printed.1;
      },
      printed.2,
    )

-- an event was refused, and the trace was printed
pub cut_at : (start before after : Point) (old new : Tally) (workers : ℕ) (events : List Event) (place : ℕ) (fault : EventFault) (failure : ReplayFailure)
    (output output' : Option (List ℕ)) → before ≡ start → StandsAfter before [] → before.done ≡ 0 → IsOpened before old workers → IsRefusedAt before old events place fault after new
    → failure ≡ failure_at place fault → IsPrinted after output output' → IsCut start.setup workers events output output' failure
cut_at start before after old new workers events place fault failure output output' same stands done opened refused is printed =
    let kept : after.setup ≡ start.setup = happen_setup before old _ after new refused.happened ∙ ap (λ (point : Point). point.setup) same in
    inl (
      place,
      fault,
      printed.0,
      is,
      record {
        before = before;
        old = old;
        after = after;
        new = new;
        begins = begins start before old workers same stands done opened;
        comes = refused;
        trace = traced start.setup after printed.0 kept printed.1;
      },
      printed.2,
    )

-- the trace wasn't printed
pub unprinted : (setup : Setup) (workers : ℕ) (events : List Event) (failure : Failure) (answer : Result (Option RunOutcome) ReplayFailure) (output output' : Option (List ℕ))
    → IsUnprinted output output' failure → IsErrAnd answer (λ given. given ≡ Plain failure) → IfErr answer (IsCut setup workers events output output')
unprinted setup workers events failure (Ok ended) output output' failed given = tt
unprinted setup workers events failure (Err given) output output' failed is = inr (failure, is, failed)
