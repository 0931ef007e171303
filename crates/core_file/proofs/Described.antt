-- The runs of all pages, as segments, are the runs of the memory.
use Rattle.std.proofs.Common.{◌≡◌, inl, inr, ℕ, zero, suc, ◌+◌, ◌-◌, ◌*◌, ◌/◌, ◌%◌, ◌^◌, ◌<◌, ◌≤◌, Bool, true, false, cond, Option, Some, None, IsSome, All, List, [], ◌∷◌, ◌++◌, length, get_or, refl, ap, sym, subst, ◌∙◌, arith, le-leb, ltb-true, leb-true, lt-ltb}
use Rattle.std.specs.Prelude.{◌||◌, find, nat_le, option_map, slice_index}
use Rattle.std.specs.List.{list_any}
use Rattle.std.proofs.lemmas.Bool.{and_from, and_parts, cases_Bool, cases_lt, cond-true, cond-false, false_from_ne_true, false≢true}
use Rattle.std.proofs.lemmas.List.{get_or_append_left, get_or-append_right, length-append}
use Rattle.guest_memory.specs.Memory.{Cell}
use Rattle.guest_memory.specs.declared.perm.Perm.{Perm}
use Rattle.elf32_reader.specs.LoadSegment.{LoadSegment, cell_at, covers}
use Rattle.paged_memory.specs.Page.{PageValue}
use Rattle.paged_memory.specs.PageMap.{PageMap, memory_of_pages}
use Rattle.core_file.specs.Loads.{AreAscending, AreRunsOf, IsBefore, IsWhole}
use Rattle.core_file.specs.Runs.{AreApart, AreRunsBelow, EndsBefore, IsMappedAs, IsRunBelow, bytes_from, has, load_of, loads_of, page_bytes}
use Rattle.core_file.specs.declared.run.Run.{Run}

page_size_of : (perm : Perm) (page : Option PageValue) → IsMappedAs perm page → length (page_bytes page) ≡ 4096
page_size_of perm None is = absurd is
page_size_of perm (Some page) is = is.1

module _ (pages : PageMap) (perm : Perm) (first : ℕ) where
  -- so many pages from the first one on are mapped
  abbrev AreMapped : ℕ → Type 0
  AreMapped count = (number : ℕ) → first ≤ number → number < first + count → IsMappedAs perm (pages number)

  fewer : (count : ℕ) → AreMapped (suc count) → AreMapped count
  fewer count mapped number from below = mapped number from (omega arith)

  pub size_of : (count : ℕ) → AreMapped count → length (bytes_from pages first count) ≡ 4096 * count
  unfolding bytes_from
  size_of zero mapped = refl
  size_of (suc count) mapped =
      let early = size_of count (fewer count mapped) in
      let page : length (page_bytes (pages (first + count))) ≡ 4096 = page_size_of perm (pages (first + count)) (mapped (first + count) (omega arith) (omega arith)) in
      length-append (bytes_from pages first count) (page_bytes (pages (first + count))) ∙ omega arith

  -- a byte of a page stands at its place among the bytes of all of them
  pub byte_in : (count place offset : ℕ) → AreMapped count → place < count → offset < 4096
      → get_or (bytes_from pages first count) (4096 * place + offset) 0 ≡ get_or (page_bytes (pages (first + place))) offset 0
  unfolding bytes_from
  byte_in zero place offset mapped inside below = absurd (omega arith)
  byte_in (suc count) place offset mapped inside below =
      let size = size_of count (fewer count mapped) in
      let before : List ℕ = bytes_from pages first count in
      let last : List ℕ = page_bytes (pages (first + count)) in
      elim (cases_lt place count) as (λ _. get_or (before ++ last) (4096 * place + offset) 0 ≡ get_or (page_bytes (pages (first + place))) offset 0) [
        | inl early ↦
            get_or_append_left before last 0 (4096 * place + offset) (omega arith) ∙ byte_in count place offset (fewer count mapped) early below
        | inr late ↦
            let same : place ≡ count = omega arith in
            let rest : 4096 * place + offset - 4096 * count ≡ offset = omega arith in
            get_or-append_right before last (4096 * count) (4096 * place + offset) 0 size (omega arith)
            ∙ ap (λ (at : ℕ). get_or last at 0) rest
            ∙ ap (λ (number : ℕ). get_or (page_bytes (pages (first + number))) offset 0) (sym same)
      ]

module _ (address : ℕ) (pages : PageMap) (run : Run) (some : 0 < run.count) where
  covered : run.first ≤ address / 4096 → address / 4096 < run.first + run.count → covers address (load_of pages run) ≡ true
  covered from below =
      let start : 4096 * run.first / 4096 ≡ run.first = omega arith in
      let end : (4096 * run.first + 4096 * run.count - 1) / 4096 ≡ run.first + run.count - 1 = omega arith in
      and_from _ _ (le-leb (4096 * run.first / 4096) (address / 4096) (omega arith)) (le-leb (address / 4096) ((4096 * run.first + 4096 * run.count - 1) / 4096) (omega arith))

  uncovered : has (address / 4096) run ≡ false → covers address (load_of pages run) ≡ false
  uncovered lacks = false_from_ne_true _ (λ touches.
      let start : 4096 * run.first / 4096 ≡ run.first = omega arith in
      let end : (4096 * run.first + 4096 * run.count - 1) / 4096 ≡ run.first + run.count - 1 = omega arith in
      let parts = and_parts _ _ touches in
      let from : 4096 * run.first / 4096 ≤ address / 4096 = leb-true _ _ parts.0 in
      let to : address / 4096 ≤ (4096 * run.first + 4096 * run.count - 1) / 4096 = leb-true _ _ parts.1 in
      let there : has (address / 4096) run ≡ true = and_from _ _ (le-leb run.first (address / 4096) (omega arith)) (lt-ltb (address / 4096) (run.first + run.count) (omega arith)) in
      false≢true (sym lacks ∙ there))

abbrev cell_in : ℕ → PageValue → Cell
cell_in place page = record { perm = page.perm; byte = slice_index page.bytes place }

module _ (pages : PageMap) (limit address : ℕ) where
  -- what a run's segment has at an address of its pages
  cell_is : (run : Run) (page : Option PageValue) → pages (address / 4096) ≡ page → IsRunBelow pages limit run → run.first ≤ address / 4096 → address / 4096 < run.first + run.count
      → Some (cell_at address (load_of pages run)) ≡ option_map (cell_in (address % 4096)) page
  cell_is run None is mapped from below = absurd (subst (IsMappedAs run.perm) is (mapped.mapped (address / 4096) from below))
  cell_is run (Some page) is mapped from below =
      let there : IsMappedAs run.perm (Some page) = subst (IsMappedAs run.perm) is (mapped.mapped (address / 4096) from below) in
      let start : 4096 * run.first ≤ address = omega arith in
      let place : ℕ = address / 4096 - run.first in
      let sum : run.first + place ≡ address / 4096 = omega arith in
      let at : address - 4096 * run.first ≡ 4096 * place + address % 4096 = omega arith in
      let byte : slice_index (bytes_from pages run.first run.count) (address - 4096 * run.first) ≡ slice_index page.bytes (address % 4096) =
      ap (λ (at : ℕ). get_or (bytes_from pages run.first run.count) at 0) at
      ∙ byte_in pages run.perm run.first run.count place (address % 4096) mapped.mapped (omega arith) (omega arith)
      ∙ ap (λ (number : ℕ). get_or (page_bytes (pages number)) (address % 4096) 0) sum
      ∙ ap (λ (page : Option PageValue). get_or (page_bytes page) (address % 4096) 0) is in
      let chosen = cond-true (nat_le (4096 * run.first) address) (slice_index (bytes_from pages run.first run.count) (address - 4096 * run.first)) 0 (le-leb _ _ start) in
      ap (λ (byte : ℕ). Some (record { perm = run.perm; byte = byte })) (chosen ∙ byte)
      ∙ ap (λ (perm : Perm). Some (record { perm = perm; byte = slice_index page.bytes (address % 4096) })) (sym there.0)

  -- what the segments have at an address is what its page has
  pub found : (runs : List Run) → All (IsRunBelow pages limit) runs → (IsSome (pages (address / 4096)) → list_any (has (address / 4096)) runs ≡ true)
      → option_map (cell_at address) (find (covers address) (loads_of pages runs)) ≡ memory_of_pages pages address
  unfolding memory_of_pages
  found [] each every =
      elim (pages (address / 4096)) as (λ page. (IsSome page → false ≡ true) → None ≡ option_map (cell_in (address % 4096)) page) [
        | None ↦ λ _. refl
        | Some page ↦ λ every. absurd (false≢true (every refl))
      ]
      every
  found (run ∷ runs) each every =
      let is : IsRunBelow pages limit run = each 0 run (omega arith) in
      let load : LoadSegment = load_of pages run in
      elim (cases_Bool (has (address / 4096) run))
      as (λ _. option_map (cell_at address) (cond (covers address load) (Some load) (find (covers address) (loads_of pages runs))) ≡ option_map (cell_in (address % 4096)) (pages (address / 4096))) [
        | inl holds ↦
            let parts = and_parts _ _ holds in
            let from : run.first ≤ address / 4096 = leb-true _ _ parts.0 in
            let below : address / 4096 < run.first + run.count = ltb-true _ _ parts.1 in
            ap (option_map (cell_at address)) (cond-true (covers address load) (Some load) (find (covers address) (loads_of pages runs)) (covered address pages run is.not_empty from below))
            ∙ cell_is run (pages (address / 4096)) refl is from below
        | inr lacks ↦
            ap (option_map (cell_at address)) (cond-false (covers address load) (Some load) (find (covers address) (loads_of pages runs)) (uncovered address pages run is.not_empty lacks))
            ∙ found runs (λ k d inside. each (suc k) d (omega arith))
            (λ there. sym (ap (λ (here : Bool). here || list_any (has (address / 4096)) runs) lacks) ∙ every there)
      ]

-- a run's segment is whole
whole : (pages : PageMap) (limit : ℕ) (run : Run) → IsRunBelow pages limit run → IsWhole (load_of pages run)
whole pages limit run is = record {
  not_empty = let some = is.not_empty in omega arith;
  start = omega arith;
  pages = omega arith;
  bytes = size_of pages run.perm run.first run.count is.mapped;
}

pub all_whole : (pages : PageMap) (limit : ℕ) (runs : List Run) → All (IsRunBelow pages limit) runs → All IsWhole (loads_of pages runs)
all_whole pages limit [] each k d inside = absurd (omega arith)
all_whole pages limit (run ∷ runs) each zero d inside = whole pages limit run (each 0 run (omega arith))
all_whole pages limit (run ∷ runs) each (suc k) d inside = all_whole pages limit runs (λ k d inside. each (suc k) d (omega arith)) k d (omega arith)

before : (pages : PageMap) (one next : Run) → EndsBefore one next → IsBefore (load_of pages one) (load_of pages next)
before pages one next (inl gap) = inl (omega arith)
before pages one next (inr touch) = inr (let meets = touch.0 in omega arith, touch.1)

ascending : (pages : PageMap) (runs : List Run) → AreApart runs → AreAscending (loads_of pages runs)
ascending pages [] apart = tt
ascending pages (one ∷ []) apart = tt
ascending pages (one ∷ next ∷ runs) apart = (before pages one next apart.0, ascending pages (next ∷ runs) apart.1)

-- the runs of all pages are those of the memory
pub runs_described : (pages : PageMap) (runs : List Run) (total : ℕ) → AreRunsBelow pages (2 ^ 20) runs total → AreRunsOf (memory_of_pages pages) (loads_of pages runs)
runs_described pages runs total are = record {
  described = λ address below. found pages (2 ^ 20) address runs are.each (are.every (address / 4096) (omega arith));
  whole = all_whole pages (2 ^ 20) runs are.each;
  ascending = ascending pages runs are.apart;
}
