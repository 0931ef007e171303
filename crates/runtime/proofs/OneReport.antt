-- The answer of one complete history is that of every one: of an end, and of its report.
use Rattle.std.proofs.Common.{◌≡◌, ◌≤◌, Option, Some, None, List, length, refl, ◌∙◌, ap, sym, subst}
use Rattle.abi.specs.Limits as limit
use Rattle.call_table.specs.State.{State}
use Rattle.paged_memory.specs.Snapshot.{cells_of}
use Rattle.sharing_report.specs.Sharing.{IsSharing}
use Rattle.token.specs.Change.{Change}
use Rattle.token.specs.Setup.{Setup}
use Rattle.token.specs.History.{History, outcome}
use Rattle.token.specs.Kept.{Keeps, kept_changes, kept_turns}
use Rattle.token.specs.Law.{Determinism, Progress}
use Rattle.token.specs.Legal.{IsLegal}
use Rattle.token.specs.RunInTurn.{point_of}
use Rattle.token.specs.Serial.{HasRecorded}
use Rattle.token.specs.declared.kept.Kept.{Kept}
use Rattle.token.specs.declared.outcome.RunOutcome.{RunOutcome}
use Rattle.token.specs.declared.run_in_turn.RunInTurn.{RunInTurn}
use Rattle.runtime.specs.Answer.{HasAnswer, IsComplete}
use Rattle.runtime.specs.Recorded.{Ends, IsRecordedEnd, Recording}
use Rattle.runtime.specs.Reports.{IsAnswerOf, Reports}
use Rattle.runtime.specs.declared.report.Report.{Report}
use Rattle.runtime.specs.declared.run_end.RunEnd.{RunEnd}

same_history : (setup : Setup) (history other : History) (ends : RunOutcome) (found : Option RunOutcome) → Determinism → Progress → IsLegal setup history
    → outcome setup history ≡ Some ends → IsComplete setup other → outcome setup other ≡ found → history ≡ other
same_history setup history other ends None one goes legal is complete found =
    let next = goes.goes_on setup other complete.legal found in
    absurd (complete.last next.0 next.1)
same_history setup history other ends (Some other_ends) one goes legal is complete found =
    (one.answer setup history other ends other_ends legal complete.legal is found).0

-- what a legal history with an outcome is every complete history is
pub one_answer : (setup : Setup) (history : History) (ends : RunOutcome) (Is : History → Type 0) → Determinism → Progress → IsLegal setup history
    → outcome setup history ≡ Some ends → Is history → HasAnswer setup Is
one_answer setup history ends Is one goes legal ended is = record {
  some = (history, record { legal = legal; last = λ step follows. goes.ends setup history step ends legal ended follows }, is);
  every = λ other complete. subst Is (same_history setup history other ends (outcome setup other) one goes legal ended complete refl) is;
}

-- what follows for each history follows for the answer
pub answer_so : (setup : Setup) (Is So : History → Type 0) → ((history : History) → Is history → So history) → HasAnswer setup Is → HasAnswer setup So
answer_so setup Is So follows answer = record {
  some = (answer.some.0, answer.some.1, follows answer.some.0 answer.some.2);
  every = λ history complete. follows history (answer.every history complete);
}

-- a run that ended so, and left this
pub ends_so : {R : Type 0} → (records : Recording R) (run : RunInTurn) (setup : Setup) (end : RunEnd) (recorder : R) → Determinism → Progress → HasRecorded records recorder run
    → (point_of run).setup ≡ setup → (point_of run).ended ≡ Some end.outcome → end.output.items ≡ (point_of run).state.output → cells_of end.memory ≡ (point_of run).state.memory
    → end.threads.items ≡ (point_of run).state.threads → length end.threads.items ≤ limit.threads → Ends records setup end recorder
ends_so records run setup end recorder one goes has given ended output memory threads few =
    let stands = has.1 in
    subst (λ (setup : Setup). Ends records setup end recorder) given
    (one_answer (point_of run).setup has.0 end.outcome (IsRecordedEnd records (point_of run).setup end recorder) one goes stands.legal (stands.ended ∙ ended)
    (record {
      ends = stands.ended ∙ ended;
      output = ap (λ (state : State). state.output) stands.state ∙ sym output;
      memory = ap (λ (state : State). state.memory) stands.state ∙ sym memory;
      threads = ap (λ (state : State). state.threads) stands.state ∙ sym threads;
      few = few;
      recorded = has.2;
    }))

-- the report of an end whose turns and changes were kept
pub report_of : (setup : Setup) (end : RunEnd) (kept : Kept) (report : Report) → Ends Keeps setup end kept → end.outcome ≡ report.outcome → end.output.items ≡ report.output.items
    → cells_of end.memory ≡ cells_of report.memory → kept_turns kept ≡ report.trace.items → IsSharing (kept_changes kept) report.sharing.items → Reports setup report
report_of setup end kept report ends outcome_is output memory trace sharing = answer_so setup (IsRecordedEnd Keeps setup end kept) (IsAnswerOf setup report) answers ends
  where
    answers : (history : History) → IsRecordedEnd Keeps setup end kept history → IsAnswerOf setup report history
    answers history answer = record {
      ends = answer.ends ∙ ap Some outcome_is;
      output = answer.output ∙ output;
      memory = answer.memory ∙ memory;
      trace = sym answer.recorded.turns_are ∙ trace;
      sharing = subst (λ (changes : List Change). IsSharing changes report.sharing.items) answer.recorded.changes_are sharing;
    }
