-- The bytes of runs, written page by page.
use Rattle.std.proofs.Common.{◌≡◌, ℕ, suc, ◌+◌, Option, List, [], ◌∷◌, ◌++◌, refl, ap, sym, subst, ◌∙◌, append_assoc, arith}
use Rattle.std.proofs.KnownBytes.{Appends-trans}
use Rattle.std.proofs.lemmas.List.{append-nil}
use Rattle.std.specs.Io.KnownBytes.{Appends}
use Rattle.paged_memory.specs.PageMap.{PageMap}
use Rattle.core_file.specs.Core.{bytes_of}
use Rattle.core_file.specs.Runs.{bytes_from, loads_of, page_bytes}
use Rattle.core_file.specs.declared.run.Run.{Run}

pub nothing_yet : (pages : PageMap) (first : ℕ) → bytes_from pages first 0 ≡ []
unfolding bytes_from
nothing_yet pages first = refl

bytes_more : (pages : PageMap) (first place : ℕ) → bytes_from pages first (place + 1) ≡ bytes_from pages first place ++ page_bytes (pages (first + place))
unfolding bytes_from
bytes_more pages first place = let next : place + 1 ≡ suc place = omega arith in ap (bytes_from pages first) next

-- one page more
pub page_more : (old mid new : Option (List ℕ)) (pages : PageMap) (first place : ℕ) (bytes : List ℕ) → Appends old mid (bytes_from pages first place) → Appends mid new bytes
    → bytes ≡ page_bytes (pages (first + place)) → Appends old new (bytes_from pages first (place + 1))
page_more old mid new pages first place bytes before wrote is =
    subst (Appends old new) (ap (λ (page : List ℕ). bytes_from pages first place ++ page) is ∙ sym (bytes_more pages first place))
    (Appends-trans old mid new (bytes_from pages first place) bytes before wrote)

loads_more : (pages : PageMap) (runs : List Run) (run : Run) → bytes_of (loads_of pages (runs ++ run ∷ [])) ≡ bytes_of (loads_of pages runs) ++ bytes_from pages run.first run.count
loads_more pages [] run = append-nil (bytes_from pages run.first run.count)
loads_more pages (first ∷ runs) run =
    ap (λ (rest : List ℕ). bytes_from pages first.first first.count ++ rest) (loads_more pages runs run)
    ∙ sym (append_assoc (bytes_from pages first.first first.count) (bytes_of (loads_of pages runs)) (bytes_from pages run.first run.count))

-- one run more
pub run_more : (old mid new : Option (List ℕ)) (pages : PageMap) (runs taken : List Run) (run : Run) → taken ≡ runs ++ run ∷ [] → Appends old mid (bytes_of (loads_of pages runs))
    → Appends mid new (bytes_from pages run.first run.count) → Appends old new (bytes_of (loads_of pages taken))
run_more old mid new pages runs taken run more before wrote =
    subst (Appends old new) (sym (ap (λ (runs : List Run). bytes_of (loads_of pages runs)) more ∙ loads_more pages runs run))
    (Appends-trans old mid new (bytes_of (loads_of pages runs)) (bytes_from pages run.first run.count) before wrote)
