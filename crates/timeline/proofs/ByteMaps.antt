-- What a map made of a function has at an address.
use Rattle.std.proofs.Common.{◌≡◌, ℕ, zero, suc, ◌+◌, ◌^◌, ◌<◌, ◌≤◌, ◌≢◌, ◌&&◌, Bool, true, false, T, cond, Option, Some, None, List, ◌∷◌, map, Less, Greater, refl, sym, ◌∙◌, ap, arith, inl, inr, eq-eqb}
use Rattle.std.specs.Prelude.{filter, filter_map, is_some, nat_lt, option_map}
use Rattle.std.specs.FinMap.{find, from_entries, get, is_sorted, get-from_entries}
use Rattle.std.specs.FinMap.Entries.{below_all}
use Rattle.std.specs.List.{cons_option, range_with_len}
use Rattle.std.specs.Ordering.{eq_by_cmp, is_eq, is_lt, nat_cmp}
use Rattle.std.proofs.lemmas.Bool.{cases_eq, le-ltb, lt-ltb, ne_eqb}
use Rattle.std.proofs.lemmas.Cmp.{nat_cmp_total}
use Rattle.commit.specs.ByteMap.{ByteMap, all_addresses, byte_map}

both : (one other : Bool) → T one → T other → T (one && other)
both true other first second = second
both false other first second = first

-- whether two numbers are the same, by their order
same_number : (number other : ℕ) → number ≡ other → eq_by_cmp nat_cmp number other ≡ true
same_number number other same = rw (le-ltb number other (omega arith), eq-eqb number other same) refl

other_number : (number other : ℕ) → number ≢ other → eq_by_cmp nat_cmp number other ≡ false
other_number number other apart = rw (ne_eqb number other apart) (either (nat_lt number other))
  where
    either : (lower : Bool) → is_eq (cond lower Less Greater) ≡ false
    either true = refl
    either false = refl

-- an entry of an address, where a byte is there
abbrev entry : ℕ → Option ℕ → Option (ℕ × ℕ)
entry address byte = option_map (λ byte. (address, byte)) byte

module _ (byte_at : ℕ → Option ℕ) where
  -- the entries of so many addresses from a first on
  entries_from : ℕ → ℕ → List (ℕ × ℕ)
  entries_from first count = filter_map (λ address. entry address (byte_at address)) (range_with_len first count)

  -- their addresses ascend
  entries_from-above : (low first count : ℕ) → low < first → T (below_all nat_cmp low (entries_from first count))
  unfolding entries_from
  entries_from-above low first zero above = tt
  entries_from-above low first (suc count) above = either (byte_at first) (entries_from-above low (first + 1) count (omega arith))
    where
      either : (byte : Option ℕ) → T (below_all nat_cmp low (entries_from (first + 1) count)) →
          T (below_all nat_cmp low (cons_option (entry first byte) (entries_from (first + 1) count)))
      either None rest = rest
      either (Some byte) rest =
          both (is_lt (nat_cmp low first)) (below_all nat_cmp low (entries_from (first + 1) count)) (rw (lt-ltb low first above) tt) rest

  entries_from-sorted : (first count : ℕ) → T (is_sorted nat_cmp (entries_from first count))
  unfolding entries_from
  entries_from-sorted first zero = tt
  entries_from-sorted first (suc count) = either (byte_at first) (entries_from-sorted (first + 1) count)
    where
      either : (byte : Option ℕ) → T (is_sorted nat_cmp (entries_from (first + 1) count)) →
          T (is_sorted nat_cmp (cons_option (entry first byte) (entries_from (first + 1) count)))
      either None rest = rest
      either (Some byte) rest =
          both (below_all nat_cmp first (entries_from (first + 1) count)) (is_sorted nat_cmp (entries_from (first + 1) count))
          (entries_from-above first (first + 1) count (omega arith)) rest

  -- and are those at which there is a byte
  entries_from-keys : (first count : ℕ) → map (λ e. e.0) (entries_from first count) ≡ filter (λ address. is_some (byte_at address)) (range_with_len first count)
  unfolding entries_from
  entries_from-keys first zero = refl
  entries_from-keys first (suc count) = either (byte_at first) (filter (λ address. is_some (byte_at address)) (range_with_len (first + 1) count)) (entries_from-keys (first + 1) count)
    where
      either : (byte : Option ℕ) (others : List ℕ) → map (λ e. e.0) (entries_from (first + 1) count) ≡ others →
          map (λ e. e.0) (cons_option (entry first byte) (entries_from (first + 1) count)) ≡ cond (is_some byte) (first ∷ others) others
      either None others rest = rest
      either (Some byte) others rest = ap (λ rest. first ∷ rest) rest

  -- what is found at an address that isn't one of them, and at one that is
  found : (address first count : ℕ) → Option ℕ
  found address first count = find nat_cmp address (entries_from first count)

  found-elsewhere : (address first count : ℕ) → address ≢ first → found address first (suc count) ≡ found address (first + 1) count
  unfolding found entries_from
  found-elsewhere address first count other = either (byte_at first)
    where
      either : (byte : Option ℕ) → find nat_cmp address (cons_option (entry first byte) (entries_from (first + 1) count)) ≡ found address (first + 1) count
      either None = refl
      either (Some byte) = rw (other_number address first other) refl

  found-past : (address first count : ℕ) → address < first → found address first count ≡ None
  unfolding found entries_from
  found-past address first zero before = refl
  found-past address first (suc count) before = found-elsewhere address first count (λ same. absurd (omega arith)) ∙ found-past address (first + 1) count (omega arith)

  found-here : (address count : ℕ) → found address address (suc count) ≡ byte_at address
  unfolding found entries_from
  found-here address count = either (byte_at address)
    where
      either : (byte : Option ℕ) → find nat_cmp address (cons_option (entry address byte) (entries_from (address + 1) count)) ≡ byte
      either None = found-past address (address + 1) count (omega arith)
      either (Some byte) = rw (same_number address address refl) refl

  found-there : (address first count : ℕ) → first ≤ address → address < first + count → found address first count ≡ byte_at address
  found-there address first zero above below = absurd (omega arith)
  found-there address first (suc count) above below =
      elim (cases_eq address first) [
        | inl same ↦ ap (λ n. found address n (suc count)) (sym same) ∙ found-here address count
        | inr other ↦ found-elsewhere address first count other ∙ found-there address (first + 1) count (omega arith) (omega arith)
      ]

  byte_map-entries : byte_map byte_at ≡ from_entries (entries_from 0 (2 ^ 32))
  unfolding byte_map all_addresses entries_from
  byte_map-entries = refl

  -- the byte of the map at an address
  pub get-byte_map : (address : ℕ) → address < 2 ^ 32 → get (byte_map byte_at) address ≡ byte_at address
  unfolding found
  get-byte_map address below =
      ap (λ (bytes : ByteMap). get bytes address) byte_map-entries ∙ get-from_entries nat_cmp_total (entries_from 0 (2 ^ 32)) address
      ∙ found-there address 0 (2 ^ 32) (omega arith) (omega arith)
