-- A phase's list is a part of the threads that have a turn.
use Rattle.std.proofs.Common.{◌≡◌, ◌∙◌, ℕ, ◌≤◌, Bool, true, false, cond, List, [], ◌∷◌, ◌==◌, Option, Some, None, length, take, filter, refl, ap, sym, subst, arith}
use Rattle.std.proofs.lemmas.Bool.{ne_eqb}
use Rattle.std.proofs.lemmas.List.{length-map}
use Rattle.shuffled_phases.specs.Lists.{IsPartOf, block_of, else_first, first_and, is_even, is_its_time, ordered, part_of, places, shuffled, taking_part, times}
use Rattle.shuffled_phases.specs.declared.part.Part.{Part}
use Rattle.shuffled_phases.specs.declared.sort_key.SortKey.{SortKey}
use Rattle.shuffled_phases.specs.declared.part.Part.TheVariants.{All, Even, Paced, First}
use Rattle.shuffled_phases.specs.Phases.{list_by, list_of, number_in}
use Rattle.shuffled_phases.specs.declared.shuffle.Shuffle.{Shuffle}
use Rattle.thread_table.specs.Threads.{serial_list}
use Rattle.thread_table.specs.declared.thread.Thread.{Thread}
use Rattle.shuffled_phases.proofs.Placing.{length-places, times-ordered}
use Rattle.shuffled_phases.proofs.Times.{times-itself}

-- each number is in a part at most as often

times-filter : (n : ℕ) (test : ℕ → Bool) (list : List ℕ) → times n (filter test list) ≤ times n list
times-filter n test [] = omega arith
times-filter n test (m ∷ rest) =
    let more = times-filter n test rest in
    elim (test m) as (λ passes. times n (cond passes (m ∷ filter test rest) (filter test rest)) ≤ times n (m ∷ rest)) [ true ↦ omega arith | false ↦ omega arith ]

times-first : (n : ℕ) (list : List ℕ) → times n (take 1 list) ≤ times n list
times-first n [] = omega arith
times-first n (m ∷ []) = omega arith
times-first n (m ∷ k ∷ rest) = omega arith

times-first_and : (n : ℕ) (test : ℕ → Bool) (list : List ℕ) → times n (first_and test list) ≤ times n list
times-first_and n test [] = omega arith
times-first_and n test (m ∷ rest) = let more = times-filter n test rest in omega arith

times-else_first : (n : ℕ) (list passed : List ℕ) → times n passed ≤ times n list → times n (else_first list passed) ≤ times n list
times-else_first n list [] within = times-first n list
times-else_first n list (m ∷ passed) within = within

times-taking_part : (n : ℕ) (part : Part) (number phase : ℕ) (list : List ℕ) → times n (taking_part part number phase list) ≤ times n list
times-taking_part n All number phase list = omega arith
times-taking_part n Even number phase list = times-first_and n (is_even number phase) list
times-taking_part n Paced number phase list =
    times-else_first n list (filter (is_its_time number phase) list) (times-filter n (is_its_time number phase) list)
times-taking_part n First number phase list = times-first n list

-- somebody takes part if anybody can

none-first : (list : List ℕ) → take 1 list ≡ [] → list ≡ []
none-first [] none = refl
none-first (m ∷ []) none = cc
none-first (m ∷ k ∷ rest) none = cc

none-first_and : (test : ℕ → Bool) (list : List ℕ) → first_and test list ≡ [] → list ≡ []
none-first_and test [] none = refl
none-first_and test (m ∷ rest) none = cc

none-else_first : (list passed : List ℕ) → else_first list passed ≡ [] → list ≡ []
none-else_first list [] none = none-first list none
none-else_first list (m ∷ passed) none = cc

none-taking_part : (part : Part) (number phase : ℕ) (list : List ℕ) → taking_part part number phase list ≡ [] → list ≡ []
none-taking_part All number phase list none = none
none-taking_part Even number phase list none = none-first_and (is_even number phase) list none
none-taking_part Paced number phase list none = none-else_first list (filter (is_its_time number phase) list) none
none-taking_part First number phase list none = none-first list none

none-ordered : (number block : ℕ) (threads : List ℕ) → ordered number block threads ≡ [] → threads ≡ []
none-ordered number block [] none = refl
none-ordered number block (thread ∷ rest) none =
    let mapped = length-map (places number block (thread ∷ rest)) (λ (place : SortKey). place.thread) in
    let all = length-places number block (thread ∷ rest) in
    let nobody = ap length none in
    absurd (omega arith)

pub IsPartOf-shuffled : (number phase : ℕ) (threads : List ℕ) → IsPartOf threads (shuffled number phase threads)
unfolding shuffled
IsPartOf-shuffled number phase threads =
    let list : List ℕ = ordered number (block_of number phase) threads in
    record {
      each = λ n.
          let same = times-ordered n number (block_of number phase) threads in
          let part = times-taking_part n (part_of number phase) number phase list in
          omega arith;
      some = λ none. none-ordered number (block_of number phase) threads (none-taking_part (part_of number phase) number phase list none);
    }

pub IsPartOf-itself : (threads : List ℕ) → IsPartOf threads threads
IsPartOf-itself threads = record { each = λ n. omega arith; some = λ none. none }

-- two lists of which one is a part of the other are empty together
pub none-part : (whole part : List ℕ) → IsPartOf whole part → whole ≡ [] → part ≡ []
none-part whole [] is none = refl
none-part whole (n ∷ rest) is none =
    let fewer : times n (n ∷ rest) ≤ times n [] = subst (λ list. times n (n ∷ rest) ≤ times n list) none (is.each n) in
    let more = times-itself n rest in
    absurd (omega arith)

pub length-part : (whole part : List ℕ) → IsPartOf whole part → (length part == 0) ≡ (length whole == 0)
length-part [] part is = ap (λ list. length list == 0) (none-part [] part is refl)
length-part (n ∷ whole) [] is = let none = is.some refl in cc
length-part (n ∷ whole) (m ∷ part) is =
    ne_eqb (length (m ∷ part)) 0 (λ same. omega arith) ∙ sym (ne_eqb (length (n ∷ whole)) 0 (λ same. omega arith))

-- the list of a phase

by_number : (number : Option ℕ) (phase : ℕ) (threads : List ℕ) → IsPartOf threads (list_by number phase threads)
by_number None phase threads = IsPartOf-itself threads
by_number (Some number) phase threads = IsPartOf-shuffled number phase threads

pub IsPartOf-list_of : (shuffle : Option Shuffle) (phase : ℕ) (threads : List Thread) → IsPartOf (serial_list threads) (list_of shuffle phase threads)
unfolding list_of
IsPartOf-list_of shuffle phase threads = by_number (number_in shuffle phase) phase (serial_list threads)
