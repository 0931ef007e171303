-- The rows of the pages that are known are the sharing.
use Rattle.std.proofs.Common.{◌≡◌, ℕ, ◌<◌, suc, ◌&&◌, ◌||◌, Bool, true, false, cond, Option, Some, None, List, [], ◌∷◌, length, map, filter, refl, sym, ◌∙◌, ap, subst, eqb, ltb, arith}
use Rattle.std.specs.Prelude.{slice_index_or}
use Rattle.std.specs.Ordering.{nat_cmp, is_eq}
use Rattle.std.specs.declared.cmp.Ordering.TheVariants.{Less}
use Rattle.std.specs.BTreeMap.{BTreeMap, IsOrdered, get, is_at}
use Rattle.std.specs.Cmp.{nat_cmp_total, nat_eq_equiv, unsigned_ties}
use Rattle.std.specs.List.{All, AllByRecursion, Contains, list_any}
use Rattle.std.specs.List.Sorted.{IsStrictlySortedBy}
use Rattle.std.specs.Map.{lookup}
use Rattle.std.proofs.lemmas.Bool.{eqb-true, lt-ltb}
use Rattle.std.proofs.lemmas.List.Elements.{All-head, All-tail}
use Rattle.std.proofs.lemmas.List.Sorted.{IsPermutation-refl}
use Rattle.std.proofs.lemmas.Map.Keys.{IsStrictlyIncreasing-from_sorted}
use Rattle.std.proofs.lemmas.Map.Views.{All-found, Contains-from_any, exact_unsigned_eq, list_any-from_Contains}
use Rattle.token.specs.Change.{Change}
use Rattle.sharing_report.specs.ByteChanges.{bytes_of, bytes_of_page}
use Rattle.sharing_report.specs.Pages.{AreKnown, IsKnown, Knows, row_at, rows_of}
use Rattle.sharing_report.specs.Sharing.{IsSharing, row_from, row_of}
use Rattle.sharing_report.specs.declared.byte_change.ByteChange.{ByteChange}
use Rattle.sharing_report.specs.declared.page_row.PageRow.{PageRow}
use Rattle.sharing_report.specs.declared.page_state.PageState.{PageState}
use Rattle.sharing_report.proofs.Rows.{row-from_numbers, sharing-rows}

-- the pages with a changed byte
abbrev pages_in : List (ℕ × PageState) → List ℕ
pages_in [] = []
pages_in (entry ∷ entries) = cond (ltb 0 entry.1.bytes) (entry.0 ∷ pages_in entries) (pages_in entries)

-- a known page's row
row_known : (state : PageState) (page : ℕ) (bytes : List ByteChange) → Knows state page bytes → row_at page state ≡ row_from page bytes
row_known state page bytes has =
    ap (λ (count : ℕ). let row : PageRow = record { page = page; turns = state.turns.count; bytes = count; threads = state.threads.count; shared = state.shared.count; clashes = state.clashes.count } in row) has.count
    ∙ row-from_numbers page bytes state.turns.count state.threads.count state.shared.count state.clashes.count has.turns.count has.threads.count has.shared.present.count has.clashes.present.count

-- what is known of an entry
abbrev EntryKnows : List Change → ℕ × PageState → Type 0
EntryKnows changes entry = Knows entry.1 entry.0 (bytes_of_page entry.0 (bytes_of changes))

rows_are : (changes : List Change) (entries : List (ℕ × PageState)) → All (EntryKnows changes) entries → rows_of entries ≡ map (row_of changes) (pages_in entries)
rows_are changes [] known = refl
rows_are changes (entry ∷ entries) known =
    step (ltb 0 entry.1.bytes) (rows_are changes entries (All-tail (EntryKnows changes) entry entries known))
  where
    first : row_at entry.0 entry.1 ≡ row_of changes entry.0
    first = row_known entry.1 entry.0 (bytes_of_page entry.0 (bytes_of changes)) (All-head (EntryKnows changes) entry entries known)

    step : (b : Bool) → rows_of entries ≡ map (row_of changes) (pages_in entries)
        → cond b (row_at entry.0 entry.1 ∷ rows_of entries) (rows_of entries) ≡ map (row_of changes) (cond b (entry.0 ∷ pages_in entries) (pages_in entries))
    step true rest = ap (λ (row : PageRow). row ∷ rows_of entries) first ∙ ap (λ (rows : List PageRow). row_of changes entry.0 ∷ rows) rest
    step false rest = rest

-- what holds of all pages holds of those with a changed byte
below_kept : (P : ℕ → Type 0) (entries : List (ℕ × PageState)) → AllByRecursion P (map (λ (entry : ℕ × PageState). entry.0) entries) → AllByRecursion P (pages_in entries)
below_kept P [] all = tt
below_kept P (entry ∷ entries) all = step (ltb 0 entry.1.bytes) (below_kept P entries all.1)
  where
    step : (b : Bool) → AllByRecursion P (pages_in entries) → AllByRecursion P (cond b (entry.0 ∷ pages_in entries) (pages_in entries))
    step true rest = (all.0, rest)
    step false rest = rest

sorted_pages : (entries : List (ℕ × PageState)) → IsStrictlySortedBy nat_cmp (map (λ (entry : ℕ × PageState). entry.0) entries) → IsStrictlySortedBy nat_cmp (pages_in entries)
unfolding IsStrictlySortedBy
sorted_pages [] sorted = tt
sorted_pages (entry ∷ entries) sorted = step (ltb 0 entry.1.bytes) (sorted_pages entries sorted.1)
  where
    step : (b : Bool) → IsStrictlySortedBy nat_cmp (pages_in entries) → IsStrictlySortedBy nat_cmp (cond b (entry.0 ∷ pages_in entries) (pages_in entries))
    step true rest = (below_kept (λ page. nat_cmp entry.0 page ≡ Less) entries sorted.0, rest)
    step false rest = rest

-- whether a page's state has a changed byte
abbrev is_changed_by : Option PageState → Bool
is_changed_by None = false
is_changed_by (Some state) = ltb 0 state.bytes

-- a page that is below all others isn't among them
below_all : (page : ℕ) (entries : List (ℕ × PageState)) → AllByRecursion (λ other. nat_cmp page other ≡ Less) (map (λ (entry : ℕ × PageState). entry.0) entries) → list_any (eqb page) (pages_in entries) ≡ false
below_all page [] all = refl
below_all page (entry ∷ entries) all = step (ltb 0 entry.1.bytes) (below_all page entries all.1)
  where
    apart : eqb page entry.0 ≡ false
    apart = unsigned_ties page entry.0 ∙ ap is_eq all.0

    step : (b : Bool) → list_any (eqb page) (pages_in entries) ≡ false → list_any (eqb page) (cond b (entry.0 ∷ pages_in entries) (pages_in entries)) ≡ false
    step true rest = ap (λ (here : Bool). here || list_any (eqb page) (pages_in entries)) apart ∙ rest
    step false rest = rest

-- a page is among those with a changed byte as its state says
among_pages : (page : ℕ) (entries : List (ℕ × PageState)) → IsStrictlySortedBy nat_cmp (map (λ (entry : ℕ × PageState). entry.0) entries)
    → list_any (eqb page) (pages_in entries) ≡ is_changed_by (lookup (is_at (nat_cmp page)) entries)
unfolding IsStrictlySortedBy
among_pages page [] sorted = refl
among_pages page (entry ∷ entries) sorted =
    step (eqb page entry.0) (ltb 0 entry.1.bytes) refl refl (among_pages page entries sorted.1)
    ∙ ap (λ (here : Bool). is_changed_by (cond here (Some entry.1) (lookup (is_at (nat_cmp page)) entries))) (unsigned_ties page entry.0)
  where
    none_later : eqb page entry.0 ≡ true → list_any (eqb page) (pages_in entries) ≡ false
    none_later here = below_all page entries (subst (λ (n : ℕ). AllByRecursion (λ other. nat_cmp n other ≡ Less) (map (λ (one : ℕ × PageState). one.0) entries)) (sym (eqb-true page entry.0 here)) sorted.0)

    step : (here changed : Bool) → eqb page entry.0 ≡ here → ltb 0 entry.1.bytes ≡ changed → list_any (eqb page) (pages_in entries) ≡ is_changed_by (lookup (is_at (nat_cmp page)) entries)
        → list_any (eqb page) (cond (ltb 0 entry.1.bytes) (entry.0 ∷ pages_in entries) (pages_in entries)) ≡ is_changed_by (cond here (Some entry.1) (lookup (is_at (nat_cmp page)) entries))
    step true true is has rest =
        ap (λ (b : Bool). list_any (eqb page) (cond b (entry.0 ∷ pages_in entries) (pages_in entries))) has
        ∙ ap (λ (b : Bool). b || list_any (eqb page) (pages_in entries)) is ∙ sym has
    step true false is has rest =
        ap (λ (b : Bool). list_any (eqb page) (cond b (entry.0 ∷ pages_in entries) (pages_in entries))) has ∙ none_later is ∙ sym has
    step false true is has rest =
        ap (λ (b : Bool). list_any (eqb page) (cond b (entry.0 ∷ pages_in entries) (pages_in entries))) has
        ∙ ap (λ (b : Bool). b || list_any (eqb page) (pages_in entries)) is ∙ rest
    step false false is has rest =
        ap (λ (b : Bool). list_any (eqb page) (cond b (entry.0 ∷ pages_in entries) (pages_in entries))) has ∙ rest

-- a page is among those of bytes where it has some
among_bytes : (page : ℕ) (bytes : List ByteChange) → list_any (eqb page) (map (λ (byte : ByteChange). byte.page) bytes) ≡ ltb 0 (length (bytes_of_page page bytes))
unfolding bytes_of_page
among_bytes page [] = refl
among_bytes page (byte ∷ bytes) =
    ap (λ (here : Bool). here || list_any (eqb page) (map (λ (one : ByteChange). one.page) bytes)) (nat_eq_equiv.symm page byte.page)
    ∙ step (eqb byte.page page) (among_bytes page bytes)
  where
    step : (here : Bool) → list_any (eqb page) (map (λ (one : ByteChange). one.page) bytes) ≡ ltb 0 (length (filter (λ one. eqb one.page page) bytes))
        → (here || list_any (eqb page) (map (λ (one : ByteChange). one.page) bytes)) ≡ ltb 0 (length (cond here (byte ∷ filter (λ one. eqb one.page page) bytes) (filter (λ one. eqb one.page page) bytes)))
    step true rest = sym (lt-ltb 0 (suc (length (filter (λ one. eqb one.page page) bytes))) (omega arith))
    step false rest = rest

-- the known state of a page has a changed byte where the page has
changed_alike : (page : ℕ) (found : Option PageState) (bytes : List ByteChange) → IsKnown found page bytes → is_changed_by found ≡ ltb 0 (length bytes)
changed_alike page None bytes none = sym (ap (λ (all : List ByteChange). ltb 0 (length all)) none)
changed_alike page (Some state) bytes has = ap (ltb 0) has.count

-- the rows of the known pages are the sharing
pub rows_sharing : (changes : List Change) (pages : BTreeMap ℕ PageState) → IsOrdered nat_cmp pages → AreKnown pages (bytes_of changes) → IsSharing changes (rows_of pages.entries)
rows_sharing changes pages sorted known =
    subst (IsSharing changes) (sym (rows_are changes pages.entries each))
    (sharing-rows changes (bytes_of changes) (pages_in pages.entries) (IsPermutation-refl (bytes_of changes)) (IsStrictlyIncreasing-from_sorted (pages_in pages.entries) (sorted_pages pages.entries sorted))
    (λ page. (
      λ found. Contains-from_any exact_unsigned_eq page (map (λ (byte : ByteChange). byte.page) (bytes_of changes)) (sym (same page) ∙ list_any-from_Contains nat_eq_equiv page (pages_in pages.entries) found),
      λ found. Contains-from_any exact_unsigned_eq page (pages_in pages.entries) (same page ∙ list_any-from_Contains nat_eq_equiv page (map (λ (byte : ByteChange). byte.page) (bytes_of changes)) found),
    )))
  where
    each : All (EntryKnows changes) pages.entries
    each k d inside =
        let entry : ℕ × PageState = slice_index_or pages.entries k d in
        let found = All-found nat_cmp_total pages sorted k d inside in
        subst (λ (one : Option PageState). IsKnown one entry.0 (bytes_of_page entry.0 (bytes_of changes))) found (known entry.0)

    same : (page : ℕ) → list_any (eqb page) (pages_in pages.entries) ≡ list_any (eqb page) (map (λ (byte : ByteChange). byte.page) (bytes_of changes))
    same page = among_pages page pages.entries sorted ∙ changed_alike page (get nat_cmp pages page) (bytes_of_page page (bytes_of changes)) (known page) ∙ sym (among_bytes page (bytes_of changes))
