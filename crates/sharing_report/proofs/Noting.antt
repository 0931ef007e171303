-- What is known of the pages with the bytes of a turn more.
use Rattle.std.proofs.Common.{◌≡◌, ℕ, ◌+◌, ◌*◌, ◌/◌, ◌≤◌, ◌<◌, Bool, true, false, cond, Option, Some, None, List, [], ◌∷◌, ◌++◌, length, map, filter, refl, sym, ◌∙◌, ap, subst, eqb, arith, append_assoc, ⊎_elim}
use Rattle.std.specs.Prelude.{is_some}
use Rattle.std.specs.Ordering.{nat_cmp, is_eq}
use Rattle.std.specs.BTreeMap.{BTreeMap, get, is_at}
use Rattle.std.specs.Cmp.{unsigned_ties}
use Rattle.std.specs.List.{All}
use Rattle.std.proofs.lemmas.Bool.{cases_eq, eq-eqb, ne_eqb}
use Rattle.std.proofs.lemmas.List.{append-nil, map-append}
use Rattle.std.proofs.lemmas.List.Elements.{All-append, All-filter, All-head, All-map, All-tail, filter-append}
use Rattle.sharing_report.specs.ByteChanges.{byte_by, bytes_by, bytes_of_page}
use Rattle.sharing_report.specs.Pages.{AreKnown, AreOfPage, AreUpTo, IsKnown, Knows}
use Rattle.sharing_report.specs.declared.byte_change.ByteChange.{ByteChange}
use Rattle.sharing_report.specs.declared.page_state.PageState.{PageState}

pub by_append : (turn phase thread : ℕ) (bytes : List ByteChange) (prefix rest : List ℕ)
    → bytes ++ bytes_by turn phase thread (prefix ++ rest) ≡ (bytes ++ bytes_by turn phase thread prefix) ++ bytes_by turn phase thread rest
by_append turn phase thread bytes prefix rest =
    ap (λ (later : List ByteChange). bytes ++ later) (map-append (byte_by turn phase thread) prefix rest)
    ∙ sym (append_assoc bytes (bytes_by turn phase thread prefix) (bytes_by turn phase thread rest))

pub upto_more : (turn phase thread : ℕ) (bytes : List ByteChange) (addresses : List ℕ) → AreUpTo turn phase bytes → AreUpTo turn phase (bytes ++ bytes_by turn phase thread addresses)
upto_more turn phase thread bytes addresses upto =
    All-append (λ (byte : ByteChange). (byte.turn ≤ turn) × (byte.phase ≤ phase)) bytes (bytes_by turn phase thread addresses) upto
    (All-map (λ (byte : ByteChange). (byte.turn ≤ turn) × (byte.phase ≤ phase)) (byte_by turn phase thread) addresses (λ k d inside. (omega arith, omega arith)))

pub upto_of_page : (turn phase page : ℕ) (bytes : List ByteChange) → AreUpTo turn phase bytes → AreUpTo turn phase (bytes_of_page page bytes)
unfolding bytes_of_page
upto_of_page turn phase page bytes upto = All-filter (λ byte. eqb byte.page page) (λ (byte : ByteChange). (byte.turn ≤ turn) × (byte.phase ≤ phase)) bytes upto

shorter : {X : Type 0} (b : Bool) (x : X) (kept : List X) (n : ℕ) → length kept ≤ n → length (cond b (x ∷ kept) kept) ≤ n + 1
shorter true x kept n few = omega arith
shorter false x kept n few = omega arith

length-filter : {X : Type 0} (p : X → Bool) (xs : List X) → length (filter p xs) ≤ length xs
length-filter p [] = omega arith
length-filter p (x ∷ xs) = let few = shorter (p x) x (filter p xs) (length xs) (length-filter p xs) in omega (arith, few)

pub length-of_page : (page : ℕ) (bytes : List ByteChange) → length (bytes_of_page page bytes) ≤ length bytes
unfolding bytes_of_page
length-of_page page bytes = length-filter (λ byte. eqb byte.page page) bytes

pub of_page-append : (page : ℕ) (bytes more : List ByteChange) → bytes_of_page page (bytes ++ more) ≡ bytes_of_page page bytes ++ bytes_of_page page more
unfolding bytes_of_page
of_page-append page bytes more = filter-append (λ byte. eqb byte.page page) bytes more

-- bytes that are all of one page
run_of_page : (turn phase thread page : ℕ) (addresses : List ℕ) → AreOfPage page addresses → bytes_of_page page (bytes_by turn phase thread addresses) ≡ bytes_by turn phase thread addresses
unfolding bytes_of_page
run_of_page turn phase thread page [] of = refl
run_of_page turn phase thread page (address ∷ addresses) of =
    ap (λ (b : Bool). cond b (byte_by turn phase thread address ∷ bytes_of_page page (bytes_by turn phase thread addresses)) (bytes_of_page page (bytes_by turn phase thread addresses)))
    (eq-eqb (address / 4096 * 4096) page (All-head (λ one. one / 4096 * 4096 ≡ page) address addresses of))
    ∙ ap (λ (rest : List ByteChange). byte_by turn phase thread address ∷ rest) (run_of_page turn phase thread page addresses (All-tail (λ one. one / 4096 * 4096 ≡ page) address addresses of))

run_of_other : (turn phase thread page other : ℕ) (addresses : List ℕ) → (page ≡ other → ⊥) → AreOfPage page addresses → bytes_of_page other (bytes_by turn phase thread addresses) ≡ []
unfolding bytes_of_page
run_of_other turn phase thread page other [] apart of = refl
run_of_other turn phase thread page other (address ∷ addresses) apart of =
    ap (λ (b : Bool). cond b (byte_by turn phase thread address ∷ bytes_of_page other (bytes_by turn phase thread addresses)) (bytes_of_page other (bytes_by turn phase thread addresses)))
    (ne_eqb (address / 4096 * 4096) other (λ same. apart (sym (All-head (λ one. one / 4096 * 4096 ≡ page) address addresses of) ∙ same)))
    ∙ run_of_other turn phase thread page other addresses apart (All-tail (λ one. one / 4096 * 4096 ≡ page) address addresses of)

-- a map in which one page has another state
abbrev pub Puts : (old new : BTreeMap ℕ PageState) (page : ℕ) → PageState → Type 0
Puts old new page state = (other : ℕ) → get nat_cmp new other ≡ cond (is_at (nat_cmp page) other) (Some state) (get nat_cmp old other)

module _ (old new : BTreeMap ℕ PageState) (page : ℕ) (state : PageState) (puts : Puts old new page state) where
  put_here : get nat_cmp new page ≡ Some state
  put_here = puts page ∙ ap (λ (b : Bool). cond b (Some state) (get nat_cmp old page)) (sym (unsigned_ties page page) ∙ eq-eqb page page refl)

  put_apart : (other : ℕ) → (page ≡ other → ⊥) → get nat_cmp new other ≡ get nat_cmp old other
  put_apart other apart = puts other ∙ ap (λ (b : Bool). cond b (Some state) (get nat_cmp old other)) (sym (unsigned_ties page other) ∙ ne_eqb page other apart)

  -- each page that there was there is
  pub put_kept : (other : ℕ) → is_some (get nat_cmp old other) ≡ true → is_some (get nat_cmp new other) ≡ true
  put_kept other there = ⊎_elim
      (λ same. subst (λ (n : ℕ). is_some (get nat_cmp new n) ≡ true) same (ap (λ (found : Option PageState). is_some found) put_here))
      (λ apart. ap (λ (found : Option PageState). is_some found) (put_apart other apart) ∙ there)
      (cases_eq page other)

  -- a page of which nothing was known
  pub known_inserted : (bytes : List ByteChange) → get nat_cmp old page ≡ None → ((one : ℕ) → Knows state one []) → AreKnown old bytes → AreKnown new bytes
  known_inserted bytes none empty known other = ⊎_elim here apart (cases_eq page other)
    where
      here : page ≡ other → IsKnown (get nat_cmp new other) other (bytes_of_page other bytes)
      here same =
          let nothing : bytes_of_page page bytes ≡ [] = subst (λ (found : Option PageState). IsKnown found page (bytes_of_page page bytes)) none (known page) in
          subst (λ (n : ℕ). IsKnown (get nat_cmp new n) n (bytes_of_page n bytes)) same
          (subst (λ (found : Option PageState). IsKnown found page (bytes_of_page page bytes)) (sym put_here)
          (subst (Knows state page) (sym nothing) (empty page)))

      apart : (page ≡ other → ⊥) → IsKnown (get nat_cmp new other) other (bytes_of_page other bytes)
      apart different = subst (λ (found : Option PageState). IsKnown found other (bytes_of_page other bytes)) (sym (put_apart other different)) (known other)

  -- bytes of one page more
  pub known_noted : (turn phase thread : ℕ) (bytes : List ByteChange) (addresses : List ℕ) → AreOfPage page addresses → AreKnown old bytes
      → Knows state page (bytes_of_page page bytes ++ bytes_by turn phase thread addresses) → AreKnown new (bytes ++ bytes_by turn phase thread addresses)
  known_noted turn phase thread bytes addresses of known knows other = ⊎_elim here apart (cases_eq page other)
    where
      run : List ByteChange
      run = bytes_by turn phase thread addresses

      here : page ≡ other → IsKnown (get nat_cmp new other) other (bytes_of_page other (bytes ++ run))
      here same =
          let joined : bytes_of_page page (bytes ++ run) ≡ bytes_of_page page bytes ++ run =
          of_page-append page bytes run ∙ ap (λ (later : List ByteChange). bytes_of_page page bytes ++ later) (run_of_page turn phase thread page addresses of) in
          subst (λ (n : ℕ). IsKnown (get nat_cmp new n) n (bytes_of_page n (bytes ++ run))) same
          (subst (λ (found : Option PageState). IsKnown found page (bytes_of_page page (bytes ++ run))) (sym put_here)
          (subst (Knows state page) (sym joined) knows))

      apart : (page ≡ other → ⊥) → IsKnown (get nat_cmp new other) other (bytes_of_page other (bytes ++ run))
      apart different =
          let joined : bytes_of_page other (bytes ++ run) ≡ bytes_of_page other bytes =
          of_page-append other bytes run ∙ ap (λ (later : List ByteChange). bytes_of_page other bytes ++ later) (run_of_other turn phase thread page other addresses different of) ∙ append-nil (bytes_of_page other bytes) in
          subst (λ (found : Option PageState). IsKnown found other (bytes_of_page other (bytes ++ run))) (sym (put_apart other different))
          (subst (IsKnown (get nat_cmp old other) other) (sym joined) (known other))

pub none_from_is_some : {X : Type 0} (found : Option X) → is_some found ≡ false → found ≡ None
none_from_is_some None is = refl
none_from_is_some (Some x) is = cc
