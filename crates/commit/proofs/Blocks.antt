use Rattle.std.proofs.Common.{◌≡◌, ◌≢◌, ◌<◌, ℕ, suc, ◌+◌, ◌≤◌, ◌==◌, Bool, true, false, not, cond, List, [], ◌∷◌, ◌++◌, length, take, drop, map, ◌%◌, ◌^◌, refl, sym, ◌∙◌, ap, ap₂, zero-add, arith, eq-eqb, w8}
use Rattle.std.proofs.lemmas.List.{take_at, drop_at, length-append, length-take-le, length-drop, drop-drop, append_assoc}
use Rattle.std.specs.Prelude.{slice_index}
use Rattle.std.proofs.lemmas.Bool.{ne_eqb}
use Rattle.std.proofs.Math.Seq.{take-add, drop-cons}
use Rattle.std.proofs.lemmas.Simd.{ones-mask_l_cons, mask_l-mod, tops_compared, length-zip2, put_chunk_is, length-chunk}
use Rattle.std.specs.Int.RustNames.{count_ones}
use Rattle.std.specs.Int.Count.{ones}
use lib.Lanes.{zip2, sel_l, mask_l, top, chunk, put_chunk}
use Rattle.commit.specs.Bytes.{differing_count, differing_from, merged_bytes}

-- whether two lanes differ
abbrev pub differ : ℕ → ℕ → Bool
differ c m = not (c == m)

-- the bits of the lanes that differ are as many as the bytes that do
pub ones-differing : (copy mine : List ℕ) → count_ones (mask_l (zip2 differ copy mine)) ≡ differing_count copy mine
unfolding differing_count ones
ones-differing [] mine = refl
ones-differing (c ∷ copy) [] = refl
ones-differing (c ∷ copy) (m ∷ mine) = rw (ones-mask_l_cons (differ c m) (zip2 differ copy mine), ones-differing copy mine) (one (c == m))
  where
    one : (same : Bool) → cond (not same) 1 0 + differing_count copy mine ≡ cond same 0 1 + differing_count copy mine
    one true = refl
    one false = refl

-- mine's lanes where they differ are the merged bytes
pub selected-merged : (now copy mine : List ℕ) → length copy ≡ length now → length mine ≡ length now →
    sel_l (zip2 differ copy mine) mine now ≡ merged_bytes now copy mine
unfolding merged_bytes
selected-merged [] [] mine sizes _ = refl
selected-merged [] (c ∷ copy) mine sizes _ = cc
selected-merged (n ∷ now) [] mine sizes _ = cc
selected-merged (n ∷ now) (c ∷ copy) [] sizes sizes' = cc
selected-merged (n ∷ now) (c ∷ copy) (m ∷ mine) sizes sizes' = ap₂ (λ x xs. x ∷ xs) (one (c == m)) (selected-merged now copy mine (omega arith) (omega arith))
  where
    one : (same : Bool) → cond (not same) m n ≡ cond same n m
    one true = refl
    one false = refl

-- what the bits of a comparison of two blocks count, and what a selection by it gives
pub block-count : (copy mine : List ℕ) → length copy ≡ 32 → length mine ≡ 32 →
    count_ones (mask_l (map (top 7) (zip2 (λ c m. cond (differ c m) 255 0) copy mine)) % 2 ^ 64) ≡ differing_count copy mine
block-count copy mine size size' =
    let lanes : map (top 7) (zip2 (λ c m. cond (differ c m) 255 0) copy mine) ≡ zip2 differ copy mine = tops_compared w8 differ copy mine in
    let few : length (zip2 differ copy mine) ≡ 32 = length-zip2 differ copy mine (size ∙ sym size') ∙ size in
    rw (lanes, mask_l-mod (zip2 differ copy mine) 64 (omega arith)) (ones-differing copy mine)

pub block-merged : (now copy mine : List ℕ) → length now ≡ 32 → length copy ≡ 32 → length mine ≡ 32 →
    sel_l (map (top 7) (zip2 (λ c m. cond (differ c m) 255 0) copy mine)) mine now ≡ merged_bytes now copy mine
block-merged now copy mine size size' size'' =
    let lanes : map (top 7) (zip2 (λ c m. cond (differ c m) 255 0) copy mine) ≡ zip2 differ copy mine = tops_compared w8 differ copy mine in
    rw lanes (selected-merged now copy mine (size' ∙ sym size) (size'' ∙ sym size))

-- two parts one after the other
pub differing_count-append : (copy copy' mine mine' : List ℕ) → length copy ≡ length mine →
    differing_count (copy ++ copy') (mine ++ mine') ≡ differing_count copy mine + differing_count copy' mine'
unfolding differing_count
differing_count-append [] copy' [] mine' sizes = simp zero-add
differing_count-append [] copy' (m ∷ mine) mine' sizes = cc
differing_count-append (c ∷ copy) copy' [] mine' sizes = cc
differing_count-append (c ∷ copy) copy' (m ∷ mine) mine' sizes =
    let rest : differing_count (copy ++ copy') (mine ++ mine') ≡ differing_count copy mine + differing_count copy' mine' = differing_count-append copy copy' mine mine' (omega arith) in
    omega arith

pub merged_bytes-append : (now now' copy copy' mine mine' : List ℕ) → length copy ≡ length now → length mine ≡ length now →
    merged_bytes (now ++ now') (copy ++ copy') (mine ++ mine') ≡ merged_bytes now copy mine ++ merged_bytes now' copy' mine'
unfolding merged_bytes
merged_bytes-append [] now' [] copy' [] mine' sizes sizes' = refl
merged_bytes-append [] now' [] copy' (m ∷ mine) mine' sizes sizes' = cc
merged_bytes-append [] now' (c ∷ copy) copy' mine mine' sizes sizes' = cc
merged_bytes-append (n ∷ now) now' [] copy' mine mine' sizes sizes' = cc
merged_bytes-append (n ∷ now) now' (c ∷ copy) copy' [] mine' sizes sizes' = cc
merged_bytes-append (n ∷ now) now' (c ∷ copy) copy' (m ∷ mine) mine' sizes sizes' =
    ap (λ xs. cond (c == m) n m ∷ xs) (merged_bytes-append now now' copy copy' mine mine' (omega arith) (omega arith))

pub length-merged_bytes : (now copy mine : List ℕ) → length (merged_bytes now copy mine) ≡ length now
unfolding merged_bytes
length-merged_bytes [] copy mine = refl
length-merged_bytes (n ∷ now) [] mine = refl
length-merged_bytes (n ∷ now) (c ∷ copy) [] = refl
length-merged_bytes (n ∷ now) (c ∷ copy) (m ∷ mine) = ap suc (length-merged_bytes now copy mine)

pub differing_count-small : (copy mine : List ℕ) → differing_count copy mine ≤ length copy
unfolding differing_count
differing_count-small [] mine = omega arith
differing_count-small (c ∷ copy) [] = omega arith
differing_count-small (c ∷ copy) (m ∷ mine) =
    let rest : differing_count copy mine ≤ length copy = differing_count-small copy mine in one (c == m) rest
  where
    one : (same : Bool) → differing_count copy mine ≤ length copy → cond same 0 1 + differing_count copy mine ≤ suc (length copy)
    one true rest = omega arith
    one false rest = omega arith

-- one block more
pub differing_count-more : (copy mine : List ℕ) (done more : ℕ) → done ≤ length copy → length copy ≡ length mine →
    differing_count (take (done + more) copy) (take (done + more) mine)
    ≡ differing_count (take done copy) (take done mine) + differing_count (chunk done more copy) (chunk done more mine)
differing_count-more copy mine done more within sizes =
    rw (take-add done more copy, take-add done more mine)
    (differing_count-append (take done copy) (chunk done more copy) (take done mine) (chunk done more mine)
    (length-take-le done copy within ∙ sym (length-take-le done mine (omega arith))))

-- a page whose bytes below a place are merged, and the others still the old ones
abbrev pub merged_below : ℕ → List ℕ → List ℕ → List ℕ → List ℕ
merged_below done now copy mine = merged_bytes (take done now) (take done copy) (take done mine) ++ drop done now

pub merged_below-more : (now copy mine : List ℕ) (done more : ℕ) → done + more ≤ length now → length copy ≡ length now → length mine ≡ length now →
    let part = merged_below done now copy mine in
    put_chunk done part (merged_bytes (chunk done more part) (chunk done more copy) (chunk done more mine)) ≡ merged_below (done + more) now copy mine
merged_below-more now copy mine done more within sizes sizes' =
    let prefix = merged_bytes (take done now) (take done copy) (take done mine) in
    let long : length prefix ≡ done = length-merged_bytes (take done now) (take done copy) (take done mine) ∙ length-take-le done now (omega arith) in
    let head : take done (prefix ++ drop done now) ≡ prefix = take_at prefix (drop done now) done long in
    let tail : drop done (prefix ++ drop done now) ≡ drop done now = drop_at prefix (drop done now) done long in
    let new = merged_bytes (chunk done more now) (chunk done more copy) (chunk done more mine) in
    let block : length new ≡ more = length-merged_bytes (chunk done more now) (chunk done more copy) (chunk done more mine) ∙ length-chunk done more now within in
    let all : length (prefix ++ drop done now) ≡ length now = omega (arith, length-append prefix (drop done now), length-drop done now, long) in
    let put : put_chunk done (prefix ++ drop done now) new ≡ take done (prefix ++ drop done now) ++ (new ++ drop (length new) (drop done (prefix ++ drop done now))) =
    put_chunk_is done (prefix ++ drop done now) new (omega arith) in
    let joined : merged_bytes (take done now ++ chunk done more now) (take done copy ++ chunk done more copy) (take done mine ++ chunk done more mine) ≡ prefix ++ new =
    merged_bytes-append (take done now) (chunk done more now) (take done copy) (chunk done more copy) (take done mine) (chunk done more mine)
    (length-take-le done copy (omega arith) ∙ sym (length-take-le done now (omega arith)))
    (length-take-le done mine (omega arith) ∙ sym (length-take-le done now (omega arith))) in
    let rest : drop more (drop done now) ≡ drop (done + more) now = drop-drop more done now in
    rw (tail, put, head, tail, block, rest, take-add done more now, take-add done more copy, take-add done more mine, joined, append_assoc) refl

-- the places of two parts, and of one byte more
pub differing_from-append : (first : ℕ) (copy copy' mine mine' : List ℕ) → length copy ≡ length mine →
    differing_from first (copy ++ copy') (mine ++ mine') ≡ differing_from first copy mine ++ differing_from (first + length copy) copy' mine'
unfolding differing_from
differing_from-append first [] copy' [] mine' sizes = (let e : first + 0 ≡ first = omega arith in rw e refl)
differing_from-append first [] copy' (m ∷ mine) mine' sizes = cc
differing_from-append first (c ∷ copy) copy' [] mine' sizes = cc
differing_from-append first (c ∷ copy) copy' (m ∷ mine) mine' sizes =
    let rest = differing_from-append (first + 1) copy copy' mine mine' (omega arith) in
    let e : first + 1 + length copy ≡ first + suc (length copy) = omega arith in
    rw (rest, e) (either (c == m))
  where
    either : (same : Bool) →
        cond same (differing_from (first + 1) copy mine ++ differing_from (first + suc (length copy)) copy' mine')
        (first ∷ (differing_from (first + 1) copy mine ++ differing_from (first + suc (length copy)) copy' mine'))
        ≡ cond same (differing_from (first + 1) copy mine) (first ∷ differing_from (first + 1) copy mine) ++ differing_from (first + suc (length copy)) copy' mine'
    either true = refl
    either false = refl

-- as many places as bytes that differ
pub length-differing_from : (first : ℕ) (copy mine : List ℕ) → length (differing_from first copy mine) ≡ differing_count copy mine
unfolding differing_from differing_count
length-differing_from first [] mine = refl
length-differing_from first (c ∷ copy) [] = refl
length-differing_from first (c ∷ copy) (m ∷ mine) = let rest = length-differing_from (first + 1) copy mine in either (c == m) rest
  where
    either : (same : Bool) → length (differing_from (first + 1) copy mine) ≡ differing_count copy mine →
        length (cond same (differing_from (first + 1) copy mine) (first ∷ differing_from (first + 1) copy mine)) ≡ cond same 0 1 + differing_count copy mine
    either true rest = omega arith
    either false rest = omega arith

pub differing_from-more : (first done more : ℕ) (copy mine : List ℕ) → done ≤ length copy → done ≤ length mine →
    differing_from first (take (done + more) copy) (take (done + more) mine)
    ≡ differing_from first (take done copy) (take done mine) ++ differing_from (first + done) (chunk done more copy) (chunk done more mine)
differing_from-more first done more copy mine within within' =
    let size : length (take done copy) ≡ done = length-take-le done copy within in
    rw (take-add done more copy, take-add done more mine)
    (differing_from-append first (take done copy) (chunk done more copy) (take done mine) (chunk done more mine) (size ∙ sym (length-take-le done mine within'))
    ∙ ap (λ (after : ℕ). differing_from first (take done copy) (take done mine) ++ differing_from (first + after) (chunk done more copy) (chunk done more mine)) size)

chunk-one : (bytes : List ℕ) (at lane : ℕ) → at + lane < length bytes → chunk lane 1 (drop at bytes) ≡ slice_index bytes (at + lane) ∷ []
chunk-one bytes at lane inside = rw (drop-drop lane at bytes, drop-cons bytes (at + lane) 0) refl

pub differing_from-lane : (first : ℕ) (copy mine : List ℕ) (at lane : ℕ) → at + lane < length copy → at + lane < length mine →
    differing_from first (chunk at (lane + 1) copy) (chunk at (lane + 1) mine)
    ≡ differing_from first (chunk at lane copy) (chunk at lane mine) ++ differing_from (first + lane) (slice_index copy (at + lane) ∷ []) (slice_index mine (at + lane) ∷ [])
differing_from-lane first copy mine at lane inside inside' =
    let size = length-drop at copy in
    let size' = length-drop at mine in
    let more = differing_from-more first lane 1 (drop at copy) (drop at mine) (omega arith) (omega arith) in
    rw (more, chunk-one copy at lane inside, chunk-one mine at lane inside') refl

pub differing_from-empty : (first : ℕ) → differing_from first [] [] ≡ []
unfolding differing_from
differing_from-empty first = refl

pub differing_from-same : (first c m : ℕ) → c ≡ m → differing_from first (c ∷ []) (m ∷ []) ≡ []
unfolding differing_from
differing_from-same first c m same = rw (eq-eqb c m same) refl

pub differing_from-one : (first c m : ℕ) → c ≢ m → differing_from first (c ∷ []) (m ∷ []) ≡ first ∷ []
unfolding differing_from
differing_from-one first c m other = rw (ne_eqb c m other) refl

-- no places where no bytes differ
pub differing_from-none : (first : ℕ) (copy mine : List ℕ) → differing_count copy mine ≡ 0 → differing_from first copy mine ≡ []
differing_from-none first copy mine none = empty (differing_from first copy mine) (length-differing_from first copy mine ∙ none)
  where
    empty : (places : List ℕ) → length places ≡ 0 → places ≡ []
    empty [] none = refl
    empty (place ∷ places) none = cc
