-- What a shuffle makes of a phase, and what a phase is without one.
use Rattle.std.specs.Prelude.{ℕ, ◌&&◌, ◌==◌, nat_le, min, if◌then◌else◌, Option, Some, None, List, length}
use Rattle.thread_table.specs.Threads.{serial_list}
use Rattle.thread_table.specs.declared.thread.Thread.{Thread}
use Rattle.shuffled_phases.specs.Lengths.{drawn_length}
use Rattle.shuffled_phases.specs.Lists.{shuffled}
use Rattle.shuffled_phases.specs.declared.shuffle.Shuffle.{Shuffle}

-- the number by which a phase is shuffled
abbrev pub number_in : Option Shuffle → (phase : ℕ) → Option ℕ
number_in None phase = None
number_in (Some shuffle) phase = if nat_le shuffle.first phase && nat_le phase shuffle.last then Some shuffle.number else None

-- the list of a phase, of the threads that have a turn
abbrev pub list_by : Option ℕ → (phase : ℕ) → List ℕ → List ℕ
list_by None phase threads = threads
list_by (Some number) phase threads = shuffled number phase threads

-- the list of a phase that begins with these threads: those that are ready or woken, ascending if no number shuffles the phase
unfoldable pub list_of : Option Shuffle → (phase : ℕ) → List Thread → List ℕ
list_of shuffle phase threads = list_by (number_in shuffle phase) phase (serial_list threads)

-- what thread 0 finds in x10 and x11 at the start
abbrev pub number_at_start : Option Shuffle → ℕ
number_at_start None = 0
number_at_start (Some shuffle) = shuffle.number

abbrev pub choices_at_start : Option Shuffle → ℕ
choices_at_start None = 0
choices_at_start (Some shuffle) = shuffle.choices

-- a length, none without a number, and none if one thread alone has a turn
abbrev pub length_by : Option ℕ → (phase thread : ℕ) → List ℕ → Option ℕ
length_by None phase thread threads = None
length_by (Some number) phase thread threads = if length threads == 1 then None else drawn_length number phase thread

abbrev pub length_in : Option Shuffle → (phase thread : ℕ) → List Thread → Option ℕ
length_in shuffle phase thread threads = length_by (number_in shuffle phase) phase thread (serial_list threads)

-- the lesser of a quantum and a length
abbrev pub lesser : Option ℕ → ℕ → ℕ
lesser None length = length
lesser (Some quantum) length = min quantum length

abbrev pub quantum_by : Option ℕ → Option ℕ → Option ℕ
quantum_by quantum None = quantum
quantum_by quantum (Some length) = Some (lesser quantum length)

-- the quantum of a thread's fresh segment in a phase that begins with these threads: that of the run, if no number shuffles the phase
unfoldable pub quantum_of : Option Shuffle → Option ℕ → (phase thread : ℕ) → List Thread → Option ℕ
quantum_of shuffle quantum phase thread threads = quantum_by quantum (length_in shuffle phase thread threads)
