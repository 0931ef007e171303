use Rattle.std.proofs.Common.{◌≡◌, ◌∙◌, ◌^◌, Option, Result, Ok, Err, IfErr, List, ℕ, ap, refl, subst, sym}
use Rattle.std.proofs.KnownBytes.{Appends-trans}
use Rattle.std.specs.Io.KnownBytes.{Appends}
use Rattle.std.specs.Result.{IsErrAnd}
use Rattle.elf32_reader.specs.LoadSegment.{LoadSegment}
use Rattle.paged_memory.specs.PageMap.{PageMap}
use Rattle.paged_memory.specs.Snapshot.{pages_of}
use Rattle.core_file.specs.Core.{Fits, bytes_of, core_of, head_of}
use Rattle.core_file.specs.Notes.{notes_of}
use Rattle.core_file.specs.Runs.{loads_of}
use Rattle.core_file.specs.declared.core_fault.CoreFault.{CoreFault}
use Rattle.core_file.specs.declared.core_fault.CoreFault.TheVariants.{TooLarge}
use Rattle.core_file.specs.declared.run.Run.{Run}
use Rattle.core_file.proofs.Described.{all_whole, runs_described}
use Rattle.core_file.proofs.Parts.{on_ok}
use Rattle.core_file.proofs.Reading.{all_low, described}
use Rattle.core_file.proofs.writing.write_core.Goals as goal

-- what follows from a fault follows where it is handed on
handed_on : {T : Type 0} (result : Result T CoreFault) (fault : CoreFault) (P : Type 0) → IsErrAnd result (λ given. given ≡ fault) → (fault ≡ TooLarge → P)
    → IfErr result (λ given. given ≡ TooLarge → P)
handed_on (Ok value) fault P given follows = tt
handed_on (Err other) fault P given follows = λ is. follows (sym given ∙ is)

pub returns-in_err-head-clause-too_large : goal.returns-in_err-head-clause-too_large
returns-in_err-head-clause-too_large g c =
    let pages : PageMap = pages_of c.args.memory.now in
    let runs : List Run = c.in_ok-runs.runs.list.items in
    let notes : c.as_slice.result.now ≡ notes_of c.args.threads.now = c.as_slice.ensures.value ∙ c.in_ok-notes.ensures in
    handed_on c.from_residual-in_err-head.result c.in_err-head.field-0.0 _ c.from_residual-in_err-head.ensures.1
    (λ is. record {
      loads = loads_of pages runs;
      runs = runs_described pages runs c.in_ok-runs.runs.pages c.in_ok-runs.ensures;
      unfit = λ fits. c.in_err-head.ensures.too_large is pages (subst (λ (notes : List ℕ). Fits notes (loads_of pages runs)) (sym notes) fits);
    })

pub returns-clause-written : goal.returns-clause-written
returns-clause-written g c =
    let pages : PageMap = pages_of c.args.memory.now in
    let runs : List Run = c.in_ok-runs.runs.list.items in
    let loads : List LoadSegment = loads_of pages runs in
    let notes : List ℕ = notes_of c.args.threads.now in
    let same : c.as_slice.result.now ≡ notes = c.as_slice.ensures.value ∙ c.in_ok-notes.ensures in
    let head : c.as_slice-2.result.now ≡ head_of notes loads =
    c.as_slice-2.ensures.value ∙ c.in_ok-head.ensures.head pages ∙ ap (λ (notes : List ℕ). head_of notes loads) same in
    let fits : Fits notes loads = subst (λ (notes : List ℕ). Fits notes loads) same (c.in_ok-head.ensures.fits pages) in
    let old : Option (List ℕ) = g.W.Write.contents c.args.writer.now in
    let mid : Option (List ℕ) = g.W.Write.contents c.write_bytes.new.writer in
    let new : Option (List ℕ) = g.W.Write.contents c.write_runs.new.writer in
    on_ok c.write_runs.result _ _
    (λ (wrote : Appends mid new (bytes_of (loads_of pages c.as_slice-3.result.now))). (
      core_of notes loads,
      record {
        loads = loads;
        runs = runs_described pages runs c.in_ok-runs.runs.pages c.in_ok-runs.ensures;
        bytes = refl;
        described = described notes loads fits (all_whole pages (2 ^ 20) runs c.in_ok-runs.ensures.each) (all_low pages runs c.in_ok-runs.ensures.each);
      },
      Appends-trans old mid new (head_of notes loads) (bytes_of loads) (subst (Appends old mid) head c.in_ok-write_bytes.ensures.written)
          (subst (λ (runs : List Run). Appends mid new (bytes_of (loads_of pages runs))) c.as_slice-3.ensures.value wrote),
    ))
    c.write_runs.ensures.written
