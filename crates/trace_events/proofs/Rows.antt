-- Texts of rows, and pages, one more.
use Rattle.std.proofs.Common.{◌≡◌, ℕ, ◌+◌, ◌<◌, Option, Some, if◌then◌else◌, List, [], ◌∷◌, ◌++◌, length, get_or, take, drop, ◌∙◌, ap, arith, append-nil, zero-add, add-one, drop-cons}
use Rattle.std.specs.List.{enumerate_from, flat_map}
use Rattle.std.proofs.lemmas.List.{take_more}
use Rattle.std.proofs.lemmas.List.Concat.{flat_map-append}
use Rattle.std.proofs.lemmas.List.FromFn.{get_or-enumerate_from, length-enumerate_from}
use Rattle.guest_memory.specs.Layout.{page_of}
use Rattle.trace_events.specs.Pages.{is_page, pages_after}

pub rows_more : {X : Type 0} (row : ℕ × X → List ℕ) (xs : List X) (count : ℕ) (d : X) → count < length xs
    → flat_map row (take (count + 1) (enumerate_from 0 xs)) ≡ flat_map row (take count (enumerate_from 0 xs)) ++ row (count, get_or xs count d)
rows_more {X} row xs count d inside =
    let rows : List (ℕ × X) = enumerate_from 0 xs in
    let long : count < length rows = omega (arith, length-enumerate_from 0 xs) in
    ap (flat_map row) (take_more rows count (0, d) long)
    ∙ flat_map-append row (take count rows) (get_or rows count (0, d) ∷ [])
    ∙ ap (λ (next : List ℕ). flat_map row (take count rows) ++ next)
    (append-nil (row (get_or rows count (0, d)))
    ∙ ap row (get_or-enumerate_from 0 xs count (0, d) inside)
    ∙ ap (λ (n : ℕ). row (n, get_or xs count d)) (zero-add count))

pub pages_more : (last : Option ℕ) (addresses : List ℕ) (i : ℕ) (address : ℕ) → i < length addresses → address ≡ get_or addresses i 0
    → pages_after last (drop i addresses) ≡ (if is_page last (page_of address) then 0 else 1) + pages_after (Some (page_of address)) (drop (i + 1) addresses)
unfolding pages_after
pages_more last addresses i address inside here = rw (here, add-one, drop-cons addresses i 0)
