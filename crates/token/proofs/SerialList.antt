-- Each number of a serial list, and of the list of a phase, is of a thread that has a turn, and is there once.
use Rattle.std.proofs.Common.{◌≡◌, ℕ, ◌<◌, length, zero, suc, ◌+◌, ◌≤◌, ◌==◌, Bool, true, false, cond, List, [], ◌∷◌, filter, map, refl, subst, arith}
use Rattle.std.proofs.lemmas.Bool.{eqb-true, ne_eqb}
use Rattle.std.specs.List.{enumerate_from}
use Rattle.shuffled_phases.specs.Lists.{IsPartOf, times}
use Rattle.shuffled_phases.proofs.Lists.{IsPartOf-list_of}
use Rattle.shuffled_phases.proofs.Times.{Each, each-none, each-part}
use Rattle.thread_table.specs.Status.{has_turn}
use Rattle.thread_table.specs.Threads.{serial_list, numbers_where}
use Rattle.thread_table.specs.declared.thread.Thread.{Thread}
use Rattle.token.specs.Setup.{Setup, list_in}
use Rattle.token.proofs.Statuses.{HasTurn}

-- numbers from low on, each below the next, of which something holds
abbrev Rises : (ℕ → Type 0) → ℕ → List ℕ → Type 0
Rises P low [] = Unit {0}
Rises P low (n ∷ numbers) = (low ≤ n) × P n × Rises P (suc n) numbers

Rises-below : (P : ℕ → Type 0) (low lower : ℕ) (numbers : List ℕ) → lower ≤ low → Rises P low numbers → Rises P lower numbers
Rises-below P low lower [] below rises = tt
Rises-below P low lower (n ∷ numbers) below rises =
    let within = rises.0 in
    (omega arith, rises.1, rises.2)

-- the numbers of the threads that have a turn
picked : (P : ℕ → Type 0) (low : ℕ) (thread : Thread) (rest : List (ℕ × Thread)) (passes : Bool) → (passes ≡ true → P low)
    → Rises P (suc low) (map (λ (row : ℕ × Thread). row.0) rest)
    → Rises P low (map (λ (row : ℕ × Thread). row.0) (cond passes ((low, thread) ∷ rest) rest))
picked P low thread rest true has rises = (omega arith, has refl, rises)
picked P low thread rest false has rises = Rises-below P (suc low) low (map (λ (row : ℕ × Thread). row.0) rest) (omega arith) rises

rises_from : (P : ℕ → Type 0) (low : ℕ) (threads : List Thread) → ((n : ℕ) → HasTurn threads n → P (low + n))
    → Rises P low (map (λ (row : ℕ × Thread). row.0) (filter (λ row. has_turn row.1.status) (enumerate_from low threads)))
rises_from P low [] has = tt
rises_from P low (thread ∷ threads) has =
    let next : low + 1 ≡ suc low = omega arith in
    let later = rises_from P (low + 1) threads (λ n turn. let same : low + suc n ≡ low + 1 + n = omega arith in subst P same (has (suc n) (let within : n < length threads = turn.0 in (omega arith, turn.1)))) in
    picked P low thread (filter (λ row. has_turn row.1.status) (enumerate_from (low + 1) threads)) (has_turn thread.status)
    (λ turn. let same : low + zero ≡ low = omega arith in subst P same (has zero (omega arith, turn)))
    (subst (λ bound. Rises P bound (map (λ (row : ℕ × Thread). row.0) (filter (λ row. has_turn row.1.status) (enumerate_from (low + 1) threads)))) next later)

-- they are there once

apart : (P : ℕ → Type 0) (low n : ℕ) (numbers : List ℕ) → Rises P low numbers → n < low → times n numbers ≡ 0
apart P low n [] rises below = refl
apart P low n (m ∷ numbers) rises below =
    let within = rises.0 in
    let other = ne_eqb m n (λ same. omega arith) in
    let rest : times n numbers ≡ 0 = apart P (suc m) n numbers rises.2 (omega arith) in
    rw other (omega arith)

with_one : (P : ℕ → Type 0) (m : ℕ) (numbers : List ℕ) → P m → ((n : ℕ) → n < suc m → times n numbers ≡ 0) → Each P numbers → Each P (m ∷ numbers)
with_one P m numbers here none each =
    record {
      once = λ n. at_most n (m == n) refl;
      holds = λ n some. of_it n (m == n) refl some;
    }
  where
    at_most : (n : ℕ) (same : Bool) → (m == n) ≡ same → cond same 1 0 + times n numbers ≤ 1
    at_most n true is = let equal = eqb-true m n is in let no : times n numbers ≡ 0 = none n (omega arith) in omega arith
    at_most n false is = let more = each.once n in omega arith

    of_it : (n : ℕ) (same : Bool) → (m == n) ≡ same → 0 < cond same 1 0 + times n numbers → P n
    of_it n true is some = subst P (eqb-true m n is) here
    of_it n false is some = each.holds n (omega arith)

each_rising : (P : ℕ → Type 0) (low : ℕ) (numbers : List ℕ) → Rises P low numbers → Each P numbers
each_rising P low [] rises = each-none P
each_rising P low (m ∷ numbers) rises =
    with_one P m numbers rises.1 (λ n below. apart P (suc m) n numbers rises.2 below) (each_rising P (suc m) numbers rises.2)

pub serial_list_each : (threads : List Thread) → Each (HasTurn threads) (serial_list threads)
unfolding numbers_where
serial_list_each threads =
    each_rising (HasTurn threads) 0 (serial_list threads)
    (rises_from (HasTurn threads) 0 threads (λ n turn. let same : n ≡ 0 + n = omega arith in subst (HasTurn threads) same turn))

-- the list of a phase

pub listed_part : (setup : Setup) (phase : ℕ) (threads : List Thread) → IsPartOf (serial_list threads) (list_in setup phase threads)
listed_part setup phase threads = IsPartOf-list_of setup.shuffle phase threads

pub listed_each : (setup : Setup) (phase : ℕ) (threads : List Thread) → Each (HasTurn threads) (list_in setup phase threads)
listed_each setup phase threads =
    each-part (HasTurn threads) (serial_list threads) (list_in setup phase threads) (listed_part setup phase threads) (serial_list_each threads)
