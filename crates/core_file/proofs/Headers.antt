-- The program headers of runs, one after the other.
use Rattle.std.proofs.Common.{◌≡◌, sum_by, ℕ, ◌+◌, ◌*◌, List, [], ◌∷◌, ◌++◌, ◌<◌, ◌^◌, length, refl, ap, sym, ◌∙◌, append_assoc, arith}
use Rattle.std.proofs.lemmas.List.{append-nil}
use Rattle.std.proofs.lemmas.List.Sums.{sum_by-cons, sum_by_push}
use Rattle.elf32_reader.specs.LoadSegment.{LoadSegment}
use Rattle.paged_memory.specs.PageMap.{PageMap}
use Rattle.core_file.specs.Core.{Fits, load_header, load_headers}
use Rattle.core_file.specs.Fields.{program_header_bytes}
use Rattle.core_file.specs.Runs.{load_of, loads_of, pages_in}
use Rattle.core_file.specs.declared.run.Run.{Run}

-- one header more
pub load_headers_more : (pages : PageMap) (start : ℕ) (runs : List Run) (run : Run)
    → load_headers start (loads_of pages (runs ++ run ∷ []))
    ≡ load_headers start (loads_of pages runs) ++ program_header_bytes (load_header (start + 4096 * pages_in runs) (load_of pages run))
unfolding load_headers
load_headers_more pages start [] run = append-nil _ ∙ ap (λ (offset : ℕ). program_header_bytes (load_header offset (load_of pages run))) (omega arith)
load_headers_more pages start (first ∷ runs) run =
    let sum : pages_in (first ∷ runs) ≡ first.count + pages_in runs = sum_by-cons (λ (run : Run). run.count) first runs in
    let offset : start + 4096 * first.count + 4096 * pages_in runs ≡ start + 4096 * pages_in (first ∷ runs) = omega arith in
    ap (λ (rest : List ℕ). program_header_bytes (load_header start (load_of pages first)) ++ rest)
    (load_headers_more pages (start + 4096 * first.count) runs run
    ∙ ap (λ (offset : ℕ). load_headers (start + 4096 * first.count) (loads_of pages runs) ++ program_header_bytes (load_header offset (load_of pages run))) offset)
    ∙ sym (append_assoc (program_header_bytes (load_header start (load_of pages first))) (load_headers (start + 4096 * first.count) (loads_of pages runs)) _)

module _ (start offset : ℕ) (runs taken : List Run) (run : Run) (more : taken ≡ runs ++ run ∷ []) (at : offset ≡ start + 4096 * pages_in runs) where
  pub offset_added : offset + 4096 * run.count ≡ start + 4096 * pages_in taken
  offset_added =
      let sum : pages_in taken ≡ pages_in runs + run.count = ap pages_in more ∙ sum_by_push (λ (run : Run). run.count) runs run in
      omega arith

  pub header_added : (pages : PageMap) (old now new : List ℕ) → now ≡ old ++ load_headers start (loads_of pages runs)
      → new ≡ now ++ program_header_bytes (load_header offset (load_of pages run)) → new ≡ old ++ load_headers start (loads_of pages taken)
  header_added pages old now new had is =
      is
      ∙ ap (λ (bytes : List ℕ). bytes ++ program_header_bytes (load_header offset (load_of pages run))) had
      ∙ append_assoc old (load_headers start (loads_of pages runs)) (program_header_bytes (load_header offset (load_of pages run)))
      ∙ ap (λ (offset : ℕ). old ++ (load_headers start (loads_of pages runs) ++ program_header_bytes (load_header offset (load_of pages run)))) at
      ∙ ap (λ (bytes : List ℕ). old ++ bytes) (sym (load_headers_more pages start runs run))
      ∙ ap (λ (runs : List Run). old ++ load_headers start (loads_of pages runs)) (sym more)

-- the bytes of the segments of runs
sizes : (pages : PageMap) (runs : List Run) → sum_by (λ load. load.memsz) (loads_of pages runs) ≡ 4096 * pages_in runs
sizes pages [] = refl
sizes pages (run ∷ runs) =
    let rest = sizes pages runs in
    let all = sum_by-cons (λ (load : LoadSegment). load.memsz) (load_of pages run) (loads_of pages runs) in
    let sum : pages_in (run ∷ runs) ≡ run.count + pages_in runs = sum_by-cons (λ (run : Run). run.count) run runs in
    all ∙ omega arith

count_of : (pages : PageMap) (runs : List Run) → length (loads_of pages runs) ≡ length runs
count_of pages [] = refl
count_of pages (run ∷ runs) = let rest = count_of pages runs in omega arith

module _ (notes : List ℕ) (runs : List Run) (total : ℕ) (counted : total ≡ pages_in runs) (pages : PageMap) where
  pub fit : length runs + 1 < 65_535 → 52 + 32 * (length runs + 1) + length notes + 4096 * total < 2 ^ 32 → Fits notes (loads_of pages runs)
  fit few small =
      let count : length (loads_of pages runs) ≡ length runs = count_of pages runs in
      let size = sizes pages runs in
      record { headers = omega arith; size = omega arith }

  pub unfit : (length runs + 1 < 65_535 → 52 + 32 * (length runs + 1) + length notes + 4096 * total < 2 ^ 32 → ⊥) → Fits notes (loads_of pages runs) → ⊥
  unfit neither fits =
      let count : length (loads_of pages runs) ≡ length runs = count_of pages runs in
      let size = sizes pages runs in
      let headers = fits.headers in
      let all = fits.size in
      neither (omega arith) (omega arith)
