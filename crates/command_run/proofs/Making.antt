-- Texts that were made and written.
use Rattle.std.proofs.Common.{◌≡◌, ℕ, Option, Some, None, Result, Ok, Err, List, [], IfOk, ap, subst}
use Rattle.std.specs.Io.KnownBytes.{Appends}
use Rattle.core_file.specs.Core.{IsCoreOf}
use Rattle.core_file.specs.Shown.{core_threads}
use Rattle.core_file.specs.declared.core_thread.CoreThread.{CoreThread}
use Rattle.output_files.specs.Content.{Has}
use Rattle.paged_memory.specs.Snapshot.{cells_of}
use Rattle.sharing_report.specs.Recording.{AreInOrder, Shares}
use Rattle.sharing_report.specs.Sharing.{IsSharing}
use Rattle.sharing_report.specs.Texts.{text_of as report_text_of}
use Rattle.sharing_report.specs.declared.page_row.PageRow.{PageRow}
use Rattle.sharing_report.specs.declared.sharing_recorder.SharingRecorder.{SharingRecorder}
use Rattle.token.specs.Change.{Change}
use Rattle.command_run.specs.Texts.{IsCoreAt, IsReportOf}
use Rattle.command_run.specs.declared.ended_run.EndedRun.{EndedRun}

-- a writer that held nothing and took a text holds it
took : (new : Option (List ℕ)) (text : List ℕ) → Appends (Some []) new text → new ≡ Some text
took None text sent = absurd sent
took (Some all) text sent = ap Some sent

pub given_all : (old new : Option (List ℕ)) (text : List ℕ) → old ≡ Some [] → Appends old new text → new ≡ Some text
given_all old new text is sent = took new text (subst (λ (known : Option (List ℕ)). Appends known new text) is sent)

-- an output that held nothing and took a core file holds it
pub core_given : {O : Type 0} (contents : O → Option (List ℕ)) (old new : O) (ended : EndedRun) (threads : List CoreThread)
    → threads ≡ core_threads ended.end.outcome ended.end.threads.items → (file : List ℕ) × IsCoreOf threads (cells_of ended.end.memory) file × Appends (contents old) (contents new) file
    → Has contents old [] → (text : List ℕ) × IsCoreAt ended text × Has contents new text
core_given contents old new ended threads is wrote empty =
    (wrote.0, subst (λ (threads : List CoreThread). IsCoreOf threads (cells_of ended.end.memory) wrote.0) is wrote.1, λ tells. given_all (contents old) (contents new) wrote.0 (empty tells) wrote.2)

-- the text of the report was made of a recorder's rows
pub report_made : {X E : Type 0} (bytes : X → List ℕ) (sharing : SharingRecorder) (rows : List PageRow) (result : Result X E)
    → ((changes : List Change) → Shares sharing changes → AreInOrder changes → IsSharing changes rows) → IfOk result (λ text. bytes text ≡ report_text_of rows)
    → IfOk result (λ text. (changes : List Change) → Shares sharing changes → AreInOrder changes → IsReportOf changes (bytes text))
report_made bytes sharing rows (Err refused) shares made = tt
report_made bytes sharing rows (Ok text) shares made = λ changes has order. (rows, shares changes has order, made)
