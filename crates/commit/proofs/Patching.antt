use Rattle.std.proofs.Common.{◌≡◌, ◌≢◌, ℕ, suc, ◌+◌, ◌-◌, ◌*◌, ◌%◌, ◌^◌, ◌<◌, ◌≤◌, ◌==◌, Bool, true, false, not, cond, Some, None, List, [], ◌∷◌, ◌++◌, length, refl, sym, ◌∙◌, ap, arith, eq-eqb}
use Rattle.std.specs.Prelude.{slice_index, is_some}
use Rattle.std.proofs.lemmas.Bool.{ne_eqb}
use Rattle.std.proofs.lemmas.List.{append-nil}
use Rattle.guest_memory.specs.Layout.{page_of}
use Rattle.commit.specs.Merge.{changed_byte}
use Rattle.commit.specs.ByteMap.{all_addresses}
use Rattle.commit.specs.Patched.{PageChange, byte_of_change, addresses_in, addresses_with, patched, AreBelow}
use Rattle.commit.proofs.Counting.{passing, passing-append, passing-same, passing-none, passing-differing}

-- a patch without pages
pub patched-none : (address : ℕ) → patched [] address ≡ None
unfolding patched
patched-none address = refl

-- an address of a page that a patch of pages below doesn't have
pub patched-past : (patch : List PageChange) (bound address : ℕ) → AreBelow patch bound → bound ≤ page_of address → patched patch address ≡ None
unfolding patched
patched-past [] bound address below past = refl
patched-past (change ∷ rest) bound address below past =
    let first : change.number < bound = below 0 (omega arith) in
    let other : change.number ≢ page_of address = (λ e. absurd (omega arith)) in
    rw (ne_eqb change.number (page_of address) other)
    (patched-past rest bound address (λ place inside. below (suc place) (omega arith)) past)

-- a patch with one page more, at an address of that page and at another
pub patched-here : (patch : List PageChange) (change : PageChange) (address : ℕ) → AreBelow patch change.number → change.number ≡ page_of address →
    patched (patch ++ change ∷ []) address ≡ byte_of_change change address
unfolding patched
patched-here [] change address below here = rw (eq-eqb change.number (page_of address) here) refl
patched-here (first ∷ rest) change address below here =
    let lower : first.number < change.number = below 0 (omega arith) in
    let other : first.number ≢ page_of address = (λ e. absurd (omega arith)) in
    rw (ne_eqb first.number (page_of address) other)
    (patched-here rest change address (λ place inside. below (suc place) (omega arith)) here)

pub patched-elsewhere : (patch : List PageChange) (change : PageChange) (address : ℕ) → change.number ≢ page_of address →
    patched (patch ++ change ∷ []) address ≡ patched patch address
unfolding patched
patched-elsewhere [] change address other = rw (ne_eqb change.number (page_of address) other) refl
patched-elsewhere (first ∷ rest) change address other =
    rw (patched-elsewhere rest change address other) refl

-- whether a page's change has a byte at an address of the page
abbrev pub has_byte : PageChange → ℕ → Bool
has_byte change address = is_some (byte_of_change change address)

abbrev pub is_patched : List PageChange → ℕ → Bool
is_patched patch address = is_some (patched patch address)

-- the addresses of a page at which its change has a byte, ascending
abbrev pub addresses_with_byte : PageChange → List ℕ
addresses_with_byte change = passing (has_byte change) (4096 * change.number) 4096

-- so many numbers, a page's and then some more
passing-parts : (test : ℕ → Bool) (first page rest : ℕ) →
    passing test 0 (first + (page + rest)) ≡ passing test 0 first ++ (passing test first page ++ passing test (first + page) rest)
passing-parts test first page rest = let e : 0 + first ≡ first = omega arith in rw (passing-append test 0 first (page + rest), e, passing-append test first page rest) refl

module _ (patch : List PageChange) (change : PageChange) (below : AreBelow patch change.number) where
  -- whether the patch has a byte at an address that isn't one of the page's, and at one after the page's first
  same-elsewhere : (address : ℕ) → change.number ≢ page_of address → is_patched (patch ++ change ∷ []) address ≡ is_patched patch address
  same-elsewhere address other = ap is_some (patched-elsewhere patch change address other)

  none-after : (address : ℕ) → change.number ≤ page_of address → is_patched patch address ≡ false
  none-after address after = ap is_some (patched-past patch change.number address below after)

  parts-new : (rest : ℕ) →
      passing (is_patched (patch ++ change ∷ [])) 0 (4096 * change.number + (4096 + rest)) ≡ passing (is_patched patch) 0 (4096 * change.number) ++ addresses_with_byte change
  parts-new rest =
      let new = is_patched (patch ++ change ∷ []) in
      let before : passing new 0 (4096 * change.number) ≡ passing (is_patched patch) 0 (4096 * change.number) =
      passing-same new (is_patched patch) 0 (4096 * change.number) (λ address above less. same-elsewhere address (λ e. absurd (omega arith))) in
      let here : passing new (4096 * change.number) 4096 ≡ addresses_with_byte change =
      passing-same new (has_byte change) (4096 * change.number) 4096 (λ address above less. ap is_some (patched-here patch change address below (omega arith))) in
      let after : passing new (4096 * change.number + 4096) rest ≡ [] =
      passing-none new (4096 * change.number + 4096) rest (λ address above less. same-elsewhere address (λ e. absurd (omega arith)) ∙ none-after address (omega arith)) in
      rw (passing-parts new (4096 * change.number) 4096 rest, before, here, after, append-nil (addresses_with_byte change)) refl

  parts-old : (rest : ℕ) → passing (is_patched patch) 0 (4096 * change.number + (4096 + rest)) ≡ passing (is_patched patch) 0 (4096 * change.number)
  parts-old rest =
      let here : passing (is_patched patch) (4096 * change.number) 4096 ≡ [] =
      passing-none (is_patched patch) (4096 * change.number) 4096 (λ address above less. none-after address (omega arith)) in
      let after : passing (is_patched patch) (4096 * change.number + 4096) rest ≡ [] =
      passing-none (is_patched patch) (4096 * change.number + 4096) rest (λ address above less. none-after address (omega arith)) in
      rw (passing-parts (is_patched patch) (4096 * change.number) 4096 rest, here, after) (append-nil _)

  -- the addresses of a patch with one page more
  parts-all : (rest total : ℕ) → 4096 * change.number + (4096 + rest) ≡ total →
      passing (is_patched (patch ++ change ∷ [])) 0 total ≡ passing (is_patched patch) 0 total ++ addresses_with_byte change
  parts-all rest total whole = rw (← whole, parts-new rest, parts-old rest) refl

  addresses-more : change.number < 2 ^ 20 → addresses_with (patched (patch ++ change ∷ [])) ≡ addresses_with (patched patch) ++ addresses_with_byte change
  unfolding all_addresses passing
  addresses-more small = parts-all (2 ^ 32 - 4096 - 4096 * change.number) (2 ^ 32) (omega arith)

-- a page's addresses that have a byte are those at which its bytes differ
is_some-changed_byte : (copy mine : ℕ) → is_some (changed_byte copy mine) ≡ not (copy == mine)
is_some-changed_byte copy mine = either (copy == mine)
  where
    either : (equal : Bool) → is_some (cond equal None (Some mine)) ≡ not equal
    either true = refl
    either false = refl

addresses_with_byte-are : (change : PageChange) → length change.copy ≡ 4096 → length change.mine ≡ 4096 → addresses_with_byte change ≡ addresses_in change
addresses_with_byte-are change size size' =
    let are : passing (has_byte change) (4096 * change.number) (length change.copy) ≡ addresses_in change =
    passing-differing (has_byte change) (4096 * change.number) change.copy change.mine (size ∙ sym size')
    (λ index below. let e : (4096 * change.number + index) % 4096 ≡ index = omega arith in rw e (is_some-changed_byte (slice_index change.copy index) (slice_index change.mine index))) in
    rw size at are

-- the addresses of a patch with one page more
pub addresses_with-more : (patch : List PageChange) (change : PageChange) → AreBelow patch change.number → change.number < 2 ^ 20 →
    length change.copy ≡ 4096 → length change.mine ≡ 4096 → addresses_with (patched (patch ++ change ∷ [])) ≡ addresses_with (patched patch) ++ addresses_in change
addresses_with-more patch change below small size size' =
    addresses-more patch change below small ∙ ap (λ here. addresses_with (patched patch) ++ here) (addresses_with_byte-are change size size')
