-- Runs of addresses that lie in one page.
use Rattle.std.proofs.Common.{◌≡◌, ℕ, zero, suc, ◌+◌, ◌-◌, ◌%◌, ◌<◌, ◌≤◌, Bool, true, false, ◌&&◌, if◌then◌else◌, Option, Some, None, List, [], ◌∷◌, ◌++◌, length, take, drop, replicate, refl, sym, ap, ◌∙◌, inl, inr, arith, length-append}
use Rattle.std.specs.Prelude.{is_some, option_map, slice_index}
use Rattle.std.proofs.Math.Path.{fun_ext}
use Rattle.std.proofs.Math.Seq.{take-add, get_or-append_right}
use Rattle.std.proofs.lemmas.Bool.{cases_eq, cases_lt}
use Rattle.std.proofs.lemmas.List.{drop_more, get_or_append_left, length-take-le}
use Rattle.guest_memory.specs.Layout.{page_of}
use Rattle.guest_memory.specs.Memory.{Cell, Memory, permitted}
use Rattle.guest_memory.specs.Layout as layout
use Rattle.guest_memory.specs.declared.perm.Perm.{Perm}
use Rattle.paged_memory.proofs.Accesses.{page-same, offset-same}
use Rattle.paged_memory.proofs.Among.{is_among-apart, is_among-inside, is_among-outside, is_among-same}
use Rattle.paged_memory.proofs.PageAccesses.{with_page-same, with_page-other}
use Rattle.paged_memory.specs.Mapping.{is_among, with_bytes}
use Rattle.paged_memory.specs.Page.{PageValue}
use Rattle.paged_memory.specs.PageMap.{PageMap, memory_of_pages, with_page}
use Rattle.call_table.specs.Effects.{all_permitted, byte_at, bytes_of}
use Rattle.call_table.proofs.Ranges.{told_permission}

-- the permission

perm_at : (pages : PageMap) (address : ℕ) → option_map (λ (cell : Cell). cell.perm) (memory_of_pages pages address) ≡ option_map (λ (page : PageValue). page.perm) (pages (page_of address))
unfolding memory_of_pages
perm_at pages address = by_page (pages (page_of address))
  where
    by_page : (page : Option PageValue)
        → option_map (λ (cell : Cell). cell.perm) (option_map (λ (page : PageValue). record { perm = page.perm; byte = slice_index page.bytes (address % layout.page_size) }) page)
        ≡ option_map (λ (page : PageValue). page.perm) page
    by_page None = refl
    by_page (Some page) = refl

perm_same : (pages : PageMap) (one other : ℕ) → page_of one ≡ page_of other
    → option_map (λ (cell : Cell). cell.perm) (memory_of_pages pages one) ≡ option_map (λ (cell : Cell). cell.perm) (memory_of_pages pages other)
perm_same pages one other same = perm_at pages one ∙ ap (λ (number : ℕ). option_map (λ (page : PageValue). page.perm) (pages number)) same ∙ sym (perm_at pages other)

module _ (may : Perm → Bool) where
  one_permitted : (memory : Memory) (address count : ℕ) (permits : Bool) → is_some (permitted may memory (address + 0)) ≡ permits
      → all_permitted may memory address (suc count) ≡ (permits && all_permitted may memory (address + 1) count)
  unfolding all_permitted
  one_permitted memory address count permits is =
      let place : address ≡ address + 0 = omega arith in
      ap (λ (test : Bool). test && all_permitted may memory (address + 1) count) (ap (λ (place : ℕ). is_some (permitted may memory place)) place ∙ is)

  twice : (test other : Bool) → (test && (test && other)) ≡ (test && other)
  twice true other = refl
  twice false other = refl

  permitted_run : (memory : Memory) (address run rest : ℕ) (permits : Bool) → 0 < run → ((k : ℕ) → k < run → is_some (permitted may memory (address + k)) ≡ permits)
      → all_permitted may memory address (run + rest) ≡ (permits && all_permitted may memory (address + run) rest)
  permitted_run memory address zero rest permits some same = absurd (omega arith)
  permitted_run memory address (suc zero) rest permits some same =
      let count : suc zero + rest ≡ suc rest = omega arith in
      ap (all_permitted may memory address) count ∙ one_permitted memory address rest permits (same 0 (omega arith))
  permitted_run memory address (suc (suc run)) rest permits some same =
      let count : suc (suc run) + rest ≡ suc (suc run + rest) = omega arith in
      let place : (k : ℕ) → address + 1 + k ≡ address + suc k = λ k. omega arith in
      let next = permitted_run memory (address + 1) (suc run) rest permits (omega arith)
      (λ k within. ap (λ (place : ℕ). is_some (permitted may memory place)) (place k) ∙ same (suc k) (omega arith)) in
      ap (all_permitted may memory address) count ∙ one_permitted memory address (suc run + rest) permits (same 0 (omega arith))
      ∙ ap (λ (test : Bool). permits && test) next ∙ twice permits _ ∙ ap (λ (other : ℕ). permits && all_permitted may memory other rest) (place (suc run))

  -- the run that begins at an address, by the permission there
  pub permitted_page : (pages : PageMap) (address done run count : ℕ) (perm : Perm) → 0 < run → done + run ≤ count → (address + done) % 4096 + run ≤ 4096
      → Some perm ≡ option_map (λ (cell : Cell). cell.perm) (memory_of_pages pages (address + done))
      → all_permitted may (memory_of_pages pages) (address + done) (count - done) ≡ (may perm && all_permitted may (memory_of_pages pages) (address + (done + run)) (count - (done + run)))
  permitted_page pages address done run count perm some within inside is =
      let memory : Memory = memory_of_pages pages in
      let parts : count - done ≡ run + (count - (done + run)) = omega arith in
      let place : address + done + run ≡ address + (done + run) = omega arith in
      ap (all_permitted may memory (address + done)) parts
      ∙ permitted_run memory (address + done) run (count - (done + run)) (may perm) some
      (λ k below. told_permission may memory (address + done + k) (memory (address + done + k)) perm refl
      (is ∙ sym (perm_same pages (address + done + k) (address + done) (page-same (address + done) k (omega arith)))))
      ∙ ap (λ (other : ℕ). may perm && all_permitted may memory other (count - (done + run))) place

-- the bytes

bytes_of-split : (memory : Memory) (address run rest : ℕ) → bytes_of memory address (run + rest) ≡ bytes_of memory address run ++ bytes_of memory (address + run) rest
unfolding bytes_of
bytes_of-split memory address zero rest =
    let none : zero + rest ≡ rest = omega arith in
    let place : address ≡ address + 0 = omega arith in
    ap (bytes_of memory address) none ∙ ap (λ (place : ℕ). bytes_of memory place rest) place
bytes_of-split memory address (suc run) rest =
    let count : suc run + rest ≡ suc (run + rest) = omega arith in
    let place : address + 1 + run ≡ address + suc run = omega arith in
    ap (bytes_of memory address) count
    ∙ ap (λ (bytes : List ℕ). byte_at memory address ∷ bytes) (bytes_of-split memory (address + 1) run rest ∙ ap (λ (place : ℕ). bytes_of memory (address + 1) run ++ bytes_of memory place rest) place)

-- the next of what is left of a range
pub bytes_of-run : (memory : Memory) (address done run count : ℕ) → done + run ≤ count
    → bytes_of memory (address + done) (count - done) ≡ bytes_of memory (address + done) run ++ bytes_of memory (address + (done + run)) (count - (done + run))
bytes_of-run memory address done run count within =
    let parts : count - done ≡ run + (count - (done + run)) = omega arith in
    let place : address + done + run ≡ address + (done + run) = omega arith in
    ap (bytes_of memory (address + done)) parts ∙ bytes_of-split memory (address + done) run (count - (done + run))
    ∙ ap (λ (other : ℕ). bytes_of memory (address + done) run ++ bytes_of memory other (count - (done + run))) place

byte_of_page : (pages : PageMap) (page : PageValue) (address : ℕ) → Some page ≡ pages (page_of address) → byte_at (memory_of_pages pages) address ≡ slice_index page.bytes (address % layout.page_size)
unfolding memory_of_pages
byte_of_page pages page address is = rw (← is) refl

byte_of_none : (pages : PageMap) (address : ℕ) → None ≡ pages (page_of address) → byte_at (memory_of_pages pages) address ≡ 0
unfolding memory_of_pages
byte_of_none pages address is = rw (← is) refl

take_none : (bytes : List ℕ) → [] ≡ take 0 bytes
take_none [] = refl
take_none (byte ∷ bytes) = refl

-- the bytes of a run are the page's from its offset on
pub bytes_of-page : (pages : PageMap) (page : PageValue) (address run : ℕ) → Some page ≡ pages (page_of address) → length page.bytes ≡ 4096 → address % 4096 + run ≤ 4096
    → bytes_of (memory_of_pages pages) address run ≡ take run (drop (address % 4096) page.bytes)
unfolding bytes_of
bytes_of-page pages page address zero is size inside = take_none (drop (address % 4096) page.bytes)
bytes_of-page pages page address (suc zero) is size inside =
    let first : ℕ = slice_index page.bytes (address % 4096) in
    let next : drop (address % 4096) page.bytes ≡ first ∷ drop (address % 4096 + 1) page.bytes = drop_more page.bytes (address % 4096) 0 (omega arith) in
    ap (λ (byte : ℕ). byte ∷ []) (byte_of_page pages page address is) ∙ ap (λ (rest : List ℕ). first ∷ rest) (take_none (drop (address % 4096 + 1) page.bytes)) ∙ sym (ap (take 1) next)
bytes_of-page pages page address (suc (suc run)) is size inside =
    let first : ℕ = slice_index page.bytes (address % 4096) in
    let next : drop (address % 4096) page.bytes ≡ first ∷ drop (address % 4096 + 1) page.bytes = drop_more page.bytes (address % 4096) 0 (omega arith) in
    let place : (address + 1) % 4096 ≡ address % 4096 + 1 = offset-same address 1 (omega arith) in
    let rest = bytes_of-page pages page (address + 1) (suc run) (is ∙ ap pages (sym (page-same address 1 (omega arith)))) size (omega arith) in
    ap (λ (byte : ℕ). byte ∷ bytes_of (memory_of_pages pages) (address + 1) (suc run)) (byte_of_page pages page address is)
    ∙ ap (λ (rest : List ℕ). first ∷ rest) (rest ∙ ap (λ (offset : ℕ). take (suc run) (drop offset page.bytes)) place)
    ∙ sym (ap (take (suc (suc run))) next)

-- and zeros where it isn't mapped
pub bytes_of-none : (pages : PageMap) (address run : ℕ) → None ≡ pages (page_of address) → address % 4096 + run ≤ 4096 → bytes_of (memory_of_pages pages) address run ≡ replicate run 0
unfolding bytes_of
bytes_of-none pages address zero is inside = refl
bytes_of-none pages address (suc zero) is inside = ap (λ (byte : ℕ). byte ∷ []) (byte_of_none pages address is)
bytes_of-none pages address (suc (suc run)) is inside =
    let place = offset-same address 1 (omega arith) in
    let rest = bytes_of-none pages (address + 1) (suc run) (is ∙ ap pages (sym (page-same address 1 (omega arith)))) (omega arith) in
    ap (λ (byte : ℕ). byte ∷ bytes_of (memory_of_pages pages) (address + 1) (suc run)) (byte_of_none pages address is) ∙ ap (λ (rest : List ℕ). 0 ∷ rest) rest

-- stores

option_map-twice : (cell : Option Cell) (f g h : Cell → Cell) → ((c : Cell) → f (g c) ≡ h c) → option_map f (option_map g cell) ≡ option_map h cell
option_map-twice None f g h same = refl
option_map-twice (Some c) f g h same = ap Some (same c)

-- what stands at an address after a store of some bytes
abbrev stored : ℕ → List ℕ → ℕ → Cell → Cell
stored start bytes x cell = if is_among start (length bytes) x then record { perm = cell.perm; byte = slice_index bytes (x - start) } else cell

stored_more : (start : ℕ) (prefix back : List ℕ) (x : ℕ) (cell : Cell) → stored (start + length prefix) back x (stored start prefix x cell) ≡ stored start (prefix ++ back) x cell
stored_more start prefix back x cell =
    let count : ℕ = length prefix in
    let longer : length (prefix ++ back) ≡ length prefix + length back = length-append prefix back in
    elim (cases_lt x (start + count)) [
      | inl below ↦ elim (cases_lt x start) [
        | inl before ↦
            rw (is_among-outside (start + length prefix) (length back) x (λ above. omega arith), is_among-outside start (length prefix) x (λ above. omega arith), is_among-outside start (length (prefix ++ back)) x (λ above. omega arith)) refl
        | inr above ↦
            rw (is_among-outside (start + length prefix) (length back) x (λ past. omega arith), is_among-inside start (length prefix) x above below, is_among-inside start (length (prefix ++ back)) x above (omega arith), get_or_append_left prefix back 0 (x - start) (omega arith)) refl
      ]
      | inr past ↦ elim (cases_lt x (start + count + length back)) [
        | inl within ↦
            (let place : x - start - length prefix ≡ x - (start + length prefix) = omega arith in
            rw (is_among-inside (start + length prefix) (length back) x past within, is_among-outside start (length prefix) x (λ above. past), is_among-inside start (length (prefix ++ back)) x (omega arith) (omega arith), get_or-append_right prefix back (x - start) 0 (omega arith), place) refl)
        | inr beyond ↦
            rw (is_among-outside (start + length prefix) (length back) x (λ above. beyond), is_among-outside start (length prefix) x (λ above. past), is_among-outside start (length (prefix ++ back)) x (λ above. omega arith)) refl
      ]
    ]

-- some more bytes stored
pub with_bytes-run : (start done run : ℕ) (bytes : List ℕ) (memory : Memory) → done ≤ length bytes
    → with_bytes (start + done) (take run (drop done bytes)) (with_bytes start (take done bytes) memory) ≡ with_bytes start (take (done + run) bytes) memory
unfolding with_bytes
with_bytes-run start done run bytes memory within =
    let size : length (take done bytes) ≡ done = length-take-le done bytes within in
    rw (take-add done run bytes) (fun_ext (λ x.
    option_map-twice (memory x) (stored (start + done) (take run (drop done bytes)) x) (stored start (take done bytes) x) (stored start (take done bytes ++ take run (drop done bytes)) x)
    (λ cell. ap (λ (n : ℕ). stored (start + n) (take run (drop done bytes)) x (stored start (take done bytes) x cell)) (sym size) ∙ stored_more start (take done bytes) (take run (drop done bytes)) x cell)))

-- a page where some bytes were stored
pub page-stored : (pages : PageMap) (number address : ℕ) (page made : PageValue) (bytes : List ℕ) → Some page ≡ pages number → number ≡ page_of address → made.perm ≡ page.perm
    → address % 4096 + length bytes ≤ 4096
    → ((i : ℕ) → i < 4096 → slice_index made.bytes i ≡ (if is_among (address % 4096) (length bytes) i then slice_index bytes (i - address % 4096) else slice_index page.bytes i))
    → memory_of_pages (with_page number (λ _. Some made) pages) ≡ with_bytes address bytes (memory_of_pages pages)
unfolding memory_of_pages with_bytes
page-stored pages number address page made bytes is named perm inside stores = fun_ext (λ x.
    elim (cases_eq (page_of x) number) [
      | inl here ↦
          (let there : pages (page_of x) ≡ Some page = ap pages here ∙ sym is in
          let offset : x - address ≡ x % 4096 - address % 4096 = omega arith in
          let among : is_among address (length bytes) x ≡ is_among (address % 4096) (length bytes) (x % 4096) =
          is_among-same address x (address % 4096) (x % 4096) (length bytes) (λ above below. (omega arith, omega arith)) (λ above below. (omega arith, omega arith)) in
          rw (with_page-same number (page_of x) (λ _. Some made) pages here, there, among, perm, stores (x % 4096) (omega arith), offset)
          (by_test (is_among (address % 4096) (length bytes) (x % 4096)) page.perm _ _))
      | inr apart ↦
          rw (with_page-other number (page_of x) (λ _. Some made) pages apart, is_among-apart address (length bytes) x (λ above below. apart (omega arith)))
          (sym (unchanged _))
    ])
  where
    by_test : (among : Bool) (perm : Perm) (new old : ℕ)
        → ◌≡◌ {A = Option Cell} (Some (record { perm = perm; byte = if among then new else old })) (Some (if among then record { perm = perm; byte = new } else record { perm = perm; byte = old }))
    by_test true perm new old = refl
    by_test false perm new old = refl

    unchanged : (cell : Option Cell) → option_map (λ (cell : Cell). cell) cell ≡ cell
    unchanged None = refl
    unchanged (Some cell) = refl

-- no page, where nothing is stored
pub page-missing : (pages : PageMap) (address : ℕ) (bytes : List ℕ) → None ≡ pages (page_of address) → address % 4096 + length bytes ≤ 4096
    → with_bytes address bytes (memory_of_pages pages) ≡ memory_of_pages pages
unfolding memory_of_pages with_bytes
page-missing pages address bytes is inside = fun_ext (λ x.
    elim (cases_eq (page_of x) (page_of address)) [
      | inl here ↦ (let there : pages (page_of x) ≡ None = ap pages here ∙ sym is in rw there refl)
      | inr apart ↦ rw (is_among-apart address (length bytes) x (λ above below. apart (omega arith))) (unchanged _)
    ])
  where
    unchanged : (cell : Option Cell) → option_map (λ (cell : Cell). cell) cell ≡ cell
    unchanged None = refl
    unchanged (Some cell) = refl
