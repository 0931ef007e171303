-- What the recorders of a run's texts have recorded.
use Rattle.std.specs.Prelude.{◌≡◌, ℕ, Bool, true, false, if◌then◌else◌, Option, Some, None, List, [], ◌∷◌, All, Contains, is_some, map}
use Rattle.output_files.specs.Content.{Has}
use Rattle.run_digest.specs.Recording.{Digests}
use Rattle.sharing_report.specs.Recording.{IsPrepared, Shares}
use Rattle.token.specs.Change.{Change}
use Rattle.token.specs.declared.turn.Turn.{Turn}
use Rattle.trace_events.specs.Pages.{page_count}
use Rattle.trace_events.specs.Recording.{Records as HasTimeline}
use Rattle.tracer.specs.Recording.{Traces}
use Rattle.command_requests.specs.declared.destination.Destination.{Destination}
use Rattle.command_requests.specs.declared.text.Text.{Text}
use Rattle.command_requests.specs.declared.text.Text.TheVariants as text
use Rattle.command_requests.specs.declared.requested_text.RequestedText.{RequestedText}
use Rattle.command_run.specs.declared.item.Item.{Item}
use Rattle.command_run.specs.declared.recording.Recording.{Recording}
use Rattle.command_run.specs.declared.recording.Recording.TheVariants.{Trace, Timeline, Report, Findings, Core, Digest}

-- which text it is
abbrev pub kind_of : {O : Type 0} → Recording O → Text
kind_of (Trace recorder) = text.Trace
kind_of (Timeline recorder) = text.Timeline
kind_of (Report recorder output) = text.Report
kind_of (Findings output) = text.Findings
kind_of (Core output) = text.Core
kind_of (Digest recorder output) = text.Digest

-- the text that is wanted, and its destination
abbrev pub wanted_of : {O : Type 0} → Item O → RequestedText
wanted_of item = record { text = kind_of item.recording; destination = item.destination }

abbrev pub wanted_by : {O : Type 0} → List (Item O) → List RequestedText
wanted_by items = map wanted_of items

-- It was told these turns and changes. The output of a text that is made at the end holds nothing yet.
abbrev pub IsTold : {O : Type 0} → (O → Option (List ℕ)) → List Turn → List Change → Recording O → Type 0
IsTold contents turns changes (Trace recorder) = Traces contents recorder turns
IsTold contents turns changes (Timeline recorder) = HasTimeline contents recorder turns changes
IsTold contents turns changes (Report recorder output) = Shares recorder changes × Has contents output []
IsTold contents turns changes (Findings output) = Has contents output []
IsTold contents turns changes (Core output) = Has contents output []
IsTold contents turns changes (Digest recorder output) = Digests recorder turns × Has contents output []

-- each of them was told these turns and changes
abbrev pub AreTold : {O : Type 0} → (O → Option (List ℕ)) → List (Item O) → List Turn → List Change → Type 0
AreTold contents items turns changes = All (λ item. IsTold contents turns changes item.recording) items

-- it is prepared for a turn that changed the bytes at these addresses
abbrev pub IsReadyFor : {O : Type 0} → List ℕ → Recording O → Type 0
IsReadyFor addresses (Trace recorder) = recorder.last ≡ None
IsReadyFor addresses (Timeline recorder) = (recorder.last ≡ None) × (recorder.pages ≡ page_count addresses)
IsReadyFor addresses (Report recorder output) = IsPrepared recorder addresses
IsReadyFor addresses (Findings output) = Unit {0}
IsReadyFor addresses (Core output) = Unit {0}
IsReadyFor addresses (Digest recorder output) = recorder.last ≡ None

abbrev pub AreReadyFor : {O : Type 0} → List (Item O) → List ℕ → Type 0
AreReadyFor items addresses = All (λ item. IsReadyFor addresses item.recording) items

-- it writes as the turns are done
abbrev pub writes_meanwhile : Text → Bool
writes_meanwhile text.Trace = true
writes_meanwhile text.Timeline = true
writes_meanwhile text.Report = false
writes_meanwhile text.Findings = false
writes_meanwhile text.Core = false
writes_meanwhile text.Digest = false

-- one of these texts is written as the turns are done
abbrev pub HasWriting : List RequestedText → Type 0
HasWriting wanted = (one : RequestedText) × Contains wanted one × (writes_meanwhile one.text ≡ true)

-- it says that it has failed: a timeline does, a trace doesn't say it, and the others don't write
abbrev pub has_failed : {O : Type 0} → Recording O → Bool
has_failed (Timeline recorder) = is_some recorder.failure
has_failed (Trace recorder) = false
has_failed (Report recorder output) = false
has_failed (Findings output) = false
has_failed (Core output) = false
has_failed (Digest recorder output) = false

-- the destination of the first that says that it has failed
abbrev pub failed_in : {O : Type 0} → List (Item O) → Option Destination
failed_in [] = None
failed_in (first ∷ others) = if has_failed first.recording then Some first.destination else failed_in others

-- of the first that writes as the turns are done
abbrev pub writing_in : {O : Type 0} → List (Item O) → Option Destination
writing_in [] = None
writing_in (first ∷ others) = if writes_meanwhile (kind_of first.recording) then Some first.destination else writing_in others

abbrev pub either : Option Destination → Option Destination → Option Destination
either (Some destination) other = Some destination
either None other = other

-- of the text that couldn't be written, if one couldn't
abbrev pub unwritten : {O : Type 0} → List (Item O) → Option Destination
unwritten items = either (failed_in items) (writing_in items)
