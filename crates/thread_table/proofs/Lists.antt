-- The numbers of the threads of which a test holds, one thread after the other, and what a thread's end makes of each thread.
use Rattle.std.proofs.Common.{◌≡◌, ◌∙◌, ℕ, zero, suc, ◌+◌, ◌<◌, ◌≤◌, Bool, true, false, cond, List, [], ◌∷◌, ◌++◌, length, take, get_or, map, filter, refl, ap, sym, arith, append-nil, add-one}
use Rattle.std.specs.List.{enumerate_from}
use Rattle.std.proofs.lemmas.List.{take_more, map-append, length-take-le, length-map}
use Rattle.std.proofs.lemmas.List.Elements.{filter-append}
use Rattle.std.proofs.lemmas.List.FromFn.{length-enumerate_from}
use Rattle.thread_table.specs.Thread.{is_joiner_of, let_go}
use Rattle.thread_table.specs.Threads.{AreNumbersOf, numbers_where}
use Rattle.thread_table.specs.declared.status.Status.TheVariants.{Ready}
use Rattle.thread_table.specs.declared.thread.Thread.{Thread}

enumerate_from-push : {X : Type 0} (n : ℕ) (xs : List X) (x : X) → enumerate_from n (xs ++ x ∷ []) ≡ enumerate_from n xs ++ (n + length xs, x) ∷ []
enumerate_from-push n [] x = ap (λ k. (k, x) ∷ []) (omega arith)
enumerate_from-push n (y ∷ ys) x =
    let same : n + 1 + length ys ≡ n + length (y ∷ ys) = omega arith in
    ap (λ rest. (n, y) ∷ rest) (enumerate_from-push (n + 1) ys x ∙ ap (λ k. enumerate_from (n + 1) ys ++ (k, x) ∷ []) same)

length-filter-le : {X : Type 0} (test : X → Bool) (xs : List X) → length (filter test xs) ≤ length xs
length-filter-le test [] = omega arith
length-filter-le test (x ∷ xs) =
    let rest = length-filter-le test xs in
    elim (test x) as (λ passes. length (cond passes (x ∷ filter test xs) (filter test xs)) ≤ length (x ∷ xs)) [ true ↦ omega arith | false ↦ omega arith ]

pub numbers_where-none : (test : Thread → Bool) → numbers_where test [] ≡ []
unfolding numbers_where
numbers_where-none test = refl

pub length-numbers_where : (test : Thread → Bool) (threads : List Thread) → length (numbers_where test threads) ≤ length threads
unfolding numbers_where
length-numbers_where test threads =
    rw (length-map, ← length-enumerate_from 0 threads) (length-filter-le (λ row. test row.1) (enumerate_from 0 threads))

-- one thread more
numbers_where-push : (test : Thread → Bool) (threads : List Thread) (thread : Thread)
    → numbers_where test (threads ++ thread ∷ []) ≡ numbers_where test threads ++ cond (test thread) (length threads ∷ []) []
unfolding numbers_where
numbers_where-push test threads thread =
    let prefix : List ℕ = numbers_where test threads in
    let first : (ℕ × Thread) → ℕ = λ row. row.0 in
    rw (enumerate_from-push, filter-append, map-append)
    (elim (test thread) as (λ passes. prefix ++ map first (cond passes ((0 + length threads, thread) ∷ []) []) ≡ prefix ++ cond passes (length threads ∷ []) [])
    [ true ↦ ap (λ k. prefix ++ k ∷ []) (omega arith) | false ↦ refl ])

-- a loop over the threads
numbers_where-more : (test : Thread → Bool) (threads : List Thread) (i : ℕ) (thread : Thread)
    → i < length threads → thread ≡ get_or threads i thread
    → numbers_where test (take (i + 1) threads) ≡ numbers_where test (take i threads) ++ cond (test thread) (i ∷ []) []
numbers_where-more test threads i thread below read =
    let within : i ≤ length threads = omega arith in
    let prefix = take_more threads i thread below in
    let known : get_or threads i thread ≡ thread = sym read in
    rw (prefix, known, numbers_where-push, length-take-le) refl

-- where the thread at the place passes the test
pub numbers_where-more_picked : (test : Thread → Bool) (threads : List Thread) (i : ℕ) (thread : Thread) (numbers : List ℕ)
    → i < length threads → thread ≡ get_or threads i thread → test thread ≡ true → numbers ≡ numbers_where test (take i threads)
    → numbers ++ i ∷ [] ≡ numbers_where test (take (i + 1) threads)
numbers_where-more_picked test threads i thread numbers below read passes so_far =
    rw (so_far, numbers_where-more test threads i thread below read, passes) refl

-- where it doesn't
pub numbers_where-more_left : (test : Thread → Bool) (threads : List Thread) (i : ℕ) (thread : Thread) (numbers : List ℕ)
    → i < length threads → thread ≡ get_or threads i thread → test thread ≡ false → numbers ≡ numbers_where test (take i threads)
    → numbers ≡ numbers_where test (take (i + 1) threads)
numbers_where-more_left test threads i thread numbers below read fails so_far =
    rw (so_far, numbers_where-more test threads i thread below read, fails, append-nil) refl

-- numbers from low on and below high, each below the next
Ascends : ℕ → ℕ → List ℕ → Type 0
Ascends low high [] = low ≤ high
Ascends low high (n ∷ numbers) = (low ≤ n) × Ascends (n + 1) high numbers

Ascends-below : (low lower high : ℕ) (numbers : List ℕ) → lower ≤ low → Ascends low high numbers → Ascends lower high numbers
unfolding Ascends
Ascends-below low lower high [] below rises = omega arith
Ascends-below low lower high (n ∷ numbers) below rises = (omega (arith, rises.0), rises.1)

Ascends-enumerate_from : (test : Thread → Bool) (low : ℕ) (threads : List Thread)
    → Ascends low (low + length threads) (map (λ (row : ℕ × Thread). row.0) (filter (λ row. test row.1) (enumerate_from low threads)))
unfolding Ascends
Ascends-enumerate_from test low [] = omega arith
Ascends-enumerate_from test low (thread ∷ threads) =
    let first : (ℕ × Thread) → ℕ = λ row. row.0 in
    let rest : List (ℕ × Thread) = filter (λ row. test row.1) (enumerate_from (low + 1) threads) in
    let same : low + 1 + length threads ≡ low + length (thread ∷ threads) = omega arith in
    let later : Ascends (low + 1) (low + length (thread ∷ threads)) (map first rest) = rw same at (Ascends-enumerate_from test (low + 1) threads) in
    elim (test thread) as (λ passes. Ascends low (low + length (thread ∷ threads)) (map first (cond passes ((low, thread) ∷ rest) rest)))
    [ true ↦ (omega arith, later) | false ↦ Ascends-below (low + 1) low _ (map first rest) (omega arith) later ]

within-from_Ascends : (low high : ℕ) (numbers : List ℕ) → Ascends low high numbers → (k d : ℕ) → k < length numbers
    → (low ≤ get_or numbers k d) × (get_or numbers k d < high)
unfolding Ascends
within-from_Ascends low high [] rises k d below = absurd (omega arith)
within-from_Ascends low high (n ∷ []) rises zero d below = (rises.0, omega (arith, rises.1))
within-from_Ascends low high (n ∷ m ∷ numbers) rises zero d below =
    let later = within-from_Ascends (n + 1) high (m ∷ numbers) rises.1 0 d (omega arith) in
    (rises.0, omega (arith, later.0, later.1))
within-from_Ascends low high (n ∷ numbers) rises (suc k) d below =
    let later = within-from_Ascends (n + 1) high numbers rises.1 k d (omega arith) in
    (omega (arith, rises.0, later.0), later.1)

increasing-from_Ascends : (low high : ℕ) (numbers : List ℕ) → Ascends low high numbers → (k : ℕ) → suc k < length numbers
    → get_or numbers k 0 < get_or numbers (suc k) 0
unfolding Ascends
increasing-from_Ascends low high [] rises k below = absurd (omega arith)
increasing-from_Ascends low high (n ∷ numbers) rises zero below =
    let later = within-from_Ascends (n + 1) high numbers rises.1 0 0 (omega arith) in
    omega (arith, later.0)
increasing-from_Ascends low high (n ∷ numbers) rises (suc k) below =
    increasing-from_Ascends (n + 1) high numbers rises.1 k (omega arith)

-- what a test picks are numbers of threads, each below the next
pub AreNumbersOf-numbers_where : (test : Thread → Bool) (threads : List Thread) → AreNumbersOf threads (numbers_where test threads)
unfolding numbers_where
AreNumbersOf-numbers_where test threads =
    let rises = Ascends-enumerate_from test 0 threads in
    record {
      made = λ k d below. omega (arith, (within-from_Ascends 0 (0 + length threads) (numbers_where test threads) rises k d below).1);
      ascending = λ k below. rw add-one (increasing-from_Ascends 0 (0 + length threads) (numbers_where test threads) rises k (omega arith));
    }

-- a joiner is let go, and another thread stays as it is
pub let_go-joiner : (n : ℕ) (thread : Thread) → is_joiner_of n thread ≡ true → let_go n thread ≡ record thread { status = Ready }
unfolding let_go
let_go-joiner n thread joins = rw joins refl

pub let_go-other : (n : ℕ) (thread : Thread) → is_joiner_of n thread ≡ false → let_go n thread ≡ thread
unfolding let_go
let_go-other n thread other = rw other refl
