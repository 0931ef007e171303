-- What becomes of the texts that a run leaves beside its outcome.
use Rattle.std.specs.Prelude.{◌≡◌, ◌⊎◌, ℕ, Option, List, [], ◌∷◌, ◌++◌, Contains, Result, Ok, Err, map}
use Rattle.std.specs.List.{AllByRecursion, AllZip}
use Rattle.std.specs.String.{string_bytes}
use Rattle.core_file.specs.Core.{IsCoreOf}
use Rattle.core_file.specs.Shown.{core_threads}
use Rattle.guest_memory.specs.Memory.{Memory}
use Rattle.output_files.specs.Content.{Content}
use Rattle.paged_memory.specs.Snapshot.{cells_of}
use Rattle.run_digest.specs.Texts.{digest_text}
use Rattle.sharing_report.specs.Sharing.{IsSharing}
use Rattle.sharing_report.specs.Texts.{text_of as report_text_of}
use Rattle.sharing_report.specs.declared.page_row.PageRow.{PageRow}
use Rattle.thread_table.specs.declared.thread.Thread.{Thread}
use Rattle.token.specs.Change.{Change}
use Rattle.token.specs.declared.outcome.RunOutcome.{RunOutcome}
use Rattle.token.specs.declared.turn.Turn.{Turn}
use Rattle.trace_events.specs.Timeline.{timeline_text}
use Rattle.tracer.specs.TraceText.{text_of as trace_text_of}
use Rattle.command_requests.specs.Destination.{CanPrint, IsApart, IsFiled, KeepsBut, Prints, printed_to}
use Rattle.command_requests.specs.declared.destination.Destination.{Destination}
use Rattle.command_requests.specs.declared.failure.Failure.{Failure}
use Rattle.command_requests.specs.declared.failure.Failure.TheVariants.{OutOfMemory}
use Rattle.command_requests.specs.declared.text.Text.{Text}
use Rattle.command_requests.specs.declared.text.Text.TheVariants.{Trace, Timeline, Report, Findings, Core, Digest}
use Rattle.command_requests.specs.declared.requested_text.RequestedText.{RequestedText}
use Rattle.command_run.specs.Placing.{IsUnbegunFor, IsUnwrittenTo, KeepsUnlessPrinted}
use Rattle.command_run.specs.declared.ended_run.EndedRun.{EndedRun}

-- what a run left: its turns, what they changed, how it ended, its output, its memory, its threads and the text of its findings
pub record Left : Type 0 where
  pub turns : List Turn
  pub changes : List Change
  pub ends : RunOutcome
  pub output : List ℕ
  pub memory : Memory
  pub threads : List Thread
  pub findings : List ℕ

-- what a run left that had these turns and changes, and ended so
abbrev pub left_by : List Turn → List Change → EndedRun → Left
left_by turns changes ended =
    record {
      turns = turns;
      changes = changes;
      ends = ended.end.outcome;
      output = ended.end.output.items;
      memory = cells_of ended.end.memory;
      threads = ended.end.threads.items;
      findings = string_bytes ended.findings;
    }

-- the report of the sharing of these changes
abbrev pub IsReportOf : List Change → List ℕ → Type 0
IsReportOf changes text = (rows : List PageRow) × IsSharing changes rows × (text ≡ report_text_of rows)

-- the core file of a run that ended so and left this memory and these threads
abbrev pub IsCore : RunOutcome → Memory → List Thread → List ℕ → Type 0
IsCore ends memory threads file = IsCoreOf (core_threads ends threads) memory file

abbrev pub IsCoreAt : EndedRun → List ℕ → Type 0
IsCoreAt ended file = IsCore ended.end.outcome (cells_of ended.end.memory) ended.end.threads.items file

-- this is that text of what a run left
abbrev pub IsTextOf : Text → Left → List ℕ → Type 0
IsTextOf Trace left text = text ≡ trace_text_of left.turns
IsTextOf Timeline left text = text ≡ timeline_text left.turns left.changes
IsTextOf Report left text = IsReportOf left.changes text
IsTextOf Findings left text = text ≡ left.findings
IsTextOf Core left text = IsCore left.ends left.memory left.threads text
IsTextOf Digest left text = text ≡ digest_text left.ends left.output left.memory (trace_text_of left.turns)

-- a text, and where it goes
pub record Placed : Type 0 where
  pub destination : Destination
  pub text : List ℕ

-- it is the wanted text of what a run left, for the wanted destination
pub record IsPlacedOf (left : Left) (wanted : RequestedText) (placed : Placed) : Type 0 where
  pub destination : placed.destination ≡ wanted.destination
  pub text : IsTextOf wanted.text left placed.text

-- they are the wanted texts of what a run left, in order
abbrev pub AreTextsOf : List RequestedText → Left → List Placed → Type 0
AreTextsOf wanted left texts = AllZip (IsPlacedOf left) wanted texts

abbrev pub destinations : List RequestedText → List Destination
destinations wanted = map (λ one. one.destination) wanted

-- what texts add to standard output
abbrev pub printed : List Placed → List ℕ
printed [] = []
printed (first ∷ others) = printed_to first.destination first.text ++ printed others

-- what is told of the outputs is told of each that is to be printed
abbrev pub CanPrintAll : Type 0 → List Placed → Type 0
CanPrintAll tells texts = AllByRecursion (λ placed. CanPrint tells placed.destination) texts

-- each of them added to standard output what it adds, one after the other
abbrev pub ArePrinted : Type 0 → List Placed → (old new : Option (List ℕ)) → Type 0
ArePrinted tells [] old new = new ≡ old
ArePrinted tells (first ∷ others) old new =
    (between : Option (List ℕ)) × Prints tells first.destination first.text old between × ArePrinted tells others between new

-- where texts go
abbrev pub homes : List Placed → List Destination
homes texts = map (λ placed. placed.destination) texts

-- each file that is named holds its text, unless a later destination is the same file or its part: that of one of the texts after it, or of those not yet out
abbrev pub AreFiled : List Placed → List Destination → Content → Type 0
AreFiled [] later content = Unit {0}
AreFiled (first ∷ others) later content =
    (AllByRecursion (IsApart first.destination) (homes others ++ later) → IsFiled first.destination first.text content)
    × AreFiled others later content

-- The texts are where they are to be: in their files, and after what standard output held. Later destinations may take a file's place.
pub record AreOut (tells : Type 0) (texts : List Placed) (later : List Destination) (content : Content) (old new : Option (List ℕ)) : Type 0 where
  pub filed : AreFiled texts later content
  pub printed_after : ArePrinted tells texts old new

-- All texts of what a run left are where they are to be, and the other files as they were.
pub record AreAllOut (tells : Type 0) (wanted : List RequestedText) (left : Left) (files files' : Content) (old new : Option (List ℕ)) : Type 0 where
  pub texts : List Placed
  pub are_texts : AreTextsOf wanted left texts
  pub out : AreOut tells texts [] files' old new
  pub others : KeepsBut (destinations wanted) [] files files'

-- The texts before one are where they are to be, that one isn't, and those after it weren't looked at.
pub record AreCutShort (tells : Type 0) (wanted : List RequestedText) (left : Left) (files files' : Content) (old new : Option (List ℕ)) (failure : Failure) : Type 0 where
  pub front : List RequestedText
  pub missed : RequestedText
  pub rest : List RequestedText
  pub split : wanted ≡ front ++ missed ∷ rest
  pub texts : List Placed
  pub are_texts : AreTextsOf front left texts
  pub between : Option (List ℕ)
  pub out : AreOut tells texts (missed.destination ∷ destinations rest) files' old between
  pub why : IsUnwrittenTo missed.destination failure
  pub kept : KeepsUnlessPrinted missed.destination between new
  pub others : KeepsBut (destinations (front ++ missed ∷ [])) (destinations rest) files files'

-- what becomes of wanted texts of what a run left
abbrev pub ComesOut : {T : Type 0} → Type 0 → List RequestedText → Left → (files files' : Content) → (old new : Option (List ℕ)) → Result T Failure → Type 0
ComesOut tells wanted left files files' old new (Ok done) = AreAllOut tells wanted left files files' old new
ComesOut tells wanted left files files' old new (Err failure) = AreCutShort tells wanted left files files' old new failure

-- why one of the texts couldn't be begun
abbrev pub IsUnbegun : List RequestedText → Failure → Type 0
IsUnbegun wanted failure = (failure ≡ OutOfMemory) ⊎ ((one : RequestedText) × Contains wanted one × IsUnbegunFor one.destination failure)
