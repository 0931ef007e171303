-- A quantum that a number draws is at least 1.
use Rattle.std.proofs.Common.{ℕ, ◌%◌, ◌<◌, ◌==◌, ◌||◌, not, Bool, true, false, Option, Some, None, if◌then◌else◌, List, length, arith}
use Rattle.std.specs.Prelude.{IfSome}
use Rattle.std.proofs.Math.Pow.{pow_pos}
use Rattle.shuffled_phases.specs.Draws.{draw}
use Rattle.shuffled_phases.specs.Lengths.{drawn_length, length_of, most_bits, rarity}
use Rattle.shuffled_phases.specs.Phases.{length_by, length_in, number_in, quantum_by, quantum_of}
use Rattle.shuffled_phases.specs.declared.shuffle.Shuffle.{Shuffle}
use Rattle.thread_table.specs.Threads.{serial_list}
use Rattle.thread_table.specs.declared.thread.Thread.{Thread}

some_length : (number phase thread : ℕ) → IfSome (drawn_length number phase thread) (λ length. 0 < length)
unfolding drawn_length
some_length number phase thread =
    by_test (most_bits number == 0 || not (draw number 9 phase thread % rarity number == 0)) (draw number 10 phase thread % most_bits number) (draw number 11 phase thread)
  where
    by_test : (none : Bool) (bits drawn : ℕ) → IfSome (if none then None else Some (length_of bits drawn)) (λ length. 0 < length)
    by_test true bits drawn = tt
    by_test false bits drawn = let some = pow_pos bits in omega arith

some_length_by : (number : Option ℕ) (phase thread : ℕ) (threads : List ℕ) → IfSome (length_by number phase thread threads) (λ length. 0 < length)
some_length_by None phase thread threads = tt
some_length_by (Some number) phase thread threads = by_test (length threads == 1)
  where
    by_test : (alone : Bool) → IfSome (if alone then None else drawn_length number phase thread) (λ length. 0 < length)
    by_test true = tt
    by_test false = some_length number phase thread

some_by : (quantum length : Option ℕ) → IfSome quantum (λ q. 0 < q) → IfSome length (λ q. 0 < q) → IfSome (quantum_by quantum length) (λ q. 0 < q)
some_by quantum None some drawn = some
some_by None (Some length) some drawn = drawn
some_by (Some quantum) (Some length) some drawn = omega arith

pub some_quantum : (shuffle : Option Shuffle) (quantum : Option ℕ) (phase thread : ℕ) (threads : List Thread) → IfSome quantum (λ q. 0 < q)
    → IfSome (quantum_of shuffle quantum phase thread threads) (λ q. 0 < q)
unfolding quantum_of
some_quantum shuffle quantum phase thread threads some =
    some_by quantum (length_in shuffle phase thread threads) some (some_length_by (number_in shuffle phase) phase thread (serial_list threads))
